use Rattle.std.proofs.Common.{◌≡◌, ap, ◌∙◌}
use Rattle.vtl_cell.specs.Outcome.{Outcome, join}
use Rattle.vtl_cell.specs.Row.{Row}
use Rattle.vtl_cell.specs.declared.cell.Cell.{Cell}
use Rattle.vtl_tree.specs.Value.{value}
use Rattle.vtl_tree.specs.View.{comp_exp_of}
use Rattle.vtl_expr.specs.Prepared.{prepared_exp}
use Rattle.vtl_scalar.specs.Seen.{seen_of}
use Rattle.vtl_expr.proofs.PointValues.{same_at}
use Rattle.vtl_window.specs.Analyses.{cells_by, faults_of}
use Rattle.vtl_window.proofs.AnalysisLemmas.{ok_same}
use Rattle.vtl_window.proofs.columns.scalar_cells.Goals as goal

pub returns-clause-cells : goal.returns-clause-cells
returns-clause-cells c =
    let p = c.args.p.now in
    let e = prepared_exp c.in_ok-prepared.prepared in
    let f = comp_exp_of c.args.e.now in
    let same : value p e ≡ value p f = λ j r. same_at e f c.in_ok-prepared.ensures p r j in
    ok_same c.computed_cells.result (λ v. v.items) (cells_by (value p e) c.table.result.now.rows) (cells_by (value p f) c.args.a.now.points)
    (ap (λ (g : Row → Outcome Cell). cells_by g c.table.result.now.rows) same ∙ ap (cells_by (value p f)) c.table.ensures.points) c.computed_cells.ensures.cells

pub returns-clause-seen : goal.returns-clause-seen
returns-clause-seen c =
    let p = c.args.p.now in
    let e = prepared_exp c.in_ok-prepared.prepared in
    let f = comp_exp_of c.args.e.now in
    let before = seen_of c.args.seen.now in
    let same : value p e ≡ value p f = λ j r. same_at e f c.in_ok-prepared.ensures p r j in
    ok_same c.computed_cells.result (λ v. seen_of c.computed_cells.new.seen) (join before (faults_of (value p e) c.table.result.now.rows)) (join before (faults_of (value p f) c.args.a.now.points))
    (ap (λ (g : Row → Outcome Cell). join before (faults_of g c.table.result.now.rows)) same ∙ ap (λ l. join before (faults_of (value p f) l)) c.table.ensures.points) c.computed_cells.ensures.seen
