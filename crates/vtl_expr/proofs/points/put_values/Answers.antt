use Rattle.std.proofs.Common.{[], ◌∷◌, ◌++◌, map, take, ap, sym, ◌∙◌, append_assoc}
use Rattle.vtl_cell.specs.Outcome.{fault_in, join}
use Rattle.vtl_tree.specs.Value.{value}
use Rattle.vtl_tree.proofs.Faults.{join_assoc}
use Rattle.vtl_meaning.specs.Points.{cell_or_null, point_fault, point_of}
use Rattle.vtl_expr.specs.Prepared.{prepared_exp}
use Rattle.vtl_scalar.specs.Seen.{seen_of}
use Rattle.vtl_expr.proofs.PointLemmas.{fault_more, values_more}
use Rattle.vtl_expr.proofs.points.put_values.Goals as goal

pub loop-e-preserved : goal.loop-e-preserved
loop-e-preserved c =
    let p = c.args.p.now in
    let es = c.args.exps.now in
    let row = c.args.at.now in
    let i = c.loop-e.e-index in
    let e = c.e-item.result in
    let v = value p (prepared_exp e) row in
    let old = c.args.points.now.cells.items in
    let before = seen_of c.args.points.now.seen in
    record {
      table = c.put.ensures.table ∙ c.loop-e.invariant.table;
      cells = c.in_ok-put.ensures.cells v c.cell.ensures ∙ ap (λ l. l ++ cell_or_null v ∷ []) c.loop-e.invariant.cells ∙ append_assoc old (point_of p (map prepared_exp (take i es)) row) (cell_or_null v ∷ [])
          ∙ ap (λ l. old ++ l) (sym (values_more prepared_exp p es i e row c.loop-e-test.true c.e-item.is));
      seen = c.in_ok-put.ensures.seen v c.cell.ensures ∙ ap (λ s. join s (fault_in v)) c.loop-e.invariant.seen ∙ join_assoc before (point_fault p (map prepared_exp (take i es)) row) (fault_in v)
          ∙ ap (join before) (sym (fault_more prepared_exp p es i e row c.loop-e-test.true c.e-item.is));
    }
