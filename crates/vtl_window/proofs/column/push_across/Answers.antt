use Rattle.std.proofs.Common.{◌+◌, ◌<◌, ◌≤◌, ◌∷◌, List, length, set, refl, sym, ap, ◌∙◌, subst, arith}
use Rattle.vtl_cell.specs.declared.cell.Cell.{Cell}
use Rattle.vtl_window.specs.Analyses.{cells_in}
use Rattle.vtl_window.proofs.AnalysisLemmas.{IsAcross, across_ends, across_next}
use Rattle.vtl_window.proofs.column.push_across.Goals as goal

pub loop-column-init : goal.loop-column-init
loop-column-init c made ys points e = record { left = e; put = refl; taken = refl }

pub loop-column-preserved : goal.loop-column-preserved
loop-column-preserved c made ys points e =
    let q = c.args.point.now in
    let i = c.loop-column.column-index in
    let columns = c.loop-column.columns in
    let then = c.next_cell.new.self in
    let row = c.loop-column.row.items in
    let before = c.args.row.now.items in
    let within : i < length columns = omega (arith, c.loop-column-test.true, c.loop-column.auto.columns) in
    subst (λ l. IsAcross made ys q points (i + 1) (set columns i then) l before) (sym {A = List Cell} c.in_ok-push.ensures.items)
    (across_next made ys q points i columns c.column-item.result then c.in_ok-next_cell.field-0 row before within c.column-item.is
    (λ first others g. let is = ap (cells_in (q ∷ points)) (sym c.column-item.is) ∙ g in (c.in_ok-next_cell.ensures.cell points first others is, c.in_ok-next_cell.ensures.others points first others is)) (c.loop-column.invariant made ys points e))

pub returns-clause-row : goal.returns-clause-row
returns-clause-row c made ys points e =
    let i = c.loop-column.column-index in
    let columns = c.loop-column.columns in
    let past : length columns ≤ i = omega (arith, c.loop-column-test.false, c.loop-column.auto.columns) in
    (across_ends made ys c.args.point.now points i columns c.loop-column.row.items c.args.row.now.items past (c.loop-column.invariant made ys points e)).0

pub returns-clause-columns : goal.returns-clause-columns
returns-clause-columns c made ys points e =
    let i = c.loop-column.column-index in
    let columns = c.loop-column.columns in
    let past : length columns ≤ i = omega (arith, c.loop-column-test.false, c.loop-column.auto.columns) in
    (across_ends made ys c.args.point.now points i columns c.loop-column.row.items c.args.row.now.items past (c.loop-column.invariant made ys points e)).1
