use Rattle.std.proofs.Common.{◌<◌, ◌≡◌, ◌++◌, ◌∷◌, [], length, ap, ◌∙◌, arith}
use Rattle.vtl_cell.specs.Outcome.{fault_in, join}
use Rattle.vtl_tree.specs.Value.{value}
use Rattle.vtl_meaning.specs.Points.{cell_or_null}
use Rattle.vtl_expr.specs.Prepared.{prepared_exp}
use Rattle.vtl_scalar.specs.Seen.{seen_of}
use Rattle.vtl_window.proofs.AnalysisLemmas.{cells_next, faults_next}
use Rattle.vtl_window.proofs.columns.computed_cells.Goals as goal

pub loop-i-preserved : goal.loop-i-preserved
loop-i-preserved c =
    let p = c.args.p.now in
    let e = prepared_exp c.args.e.now in
    let rows = c.args.table.now.rows in
    let i = c.loop-i.i in
    let r = c.row.result.now in
    let within : i < length rows = omega (arith, c.len-i-end.ensures.rows, c.loop-i-test.true) in
    let cells = c.loop-i.cells.items in
    let same : value p e c.of.result ≡ value p e r = ap (value p e) c.of.ensures in
    record {
      cells = cells_next (value p e) rows i r within c.row.ensures.row cells c.push.new.self.items c.loop-i.invariant.cells (c.in_ok-push.ensures.items ∙ ap (λ x. cells ++ x ∷ []) (c.in_ok-noted.ensures.cell (value p e c.of.result) c.cell.ensures ∙ ap cell_or_null same));
      seen = faults_next (value p e) rows i r within c.row.ensures.row (seen_of c.args.seen.now) (seen_of c.loop-i.seen) (seen_of c.noted.new.seen) c.loop-i.invariant.seen (c.in_ok-noted.ensures.seen (value p e c.of.result) c.cell.ensures ∙ ap (λ m. join (seen_of c.loop-i.seen) (fault_in m)) same);
    }
