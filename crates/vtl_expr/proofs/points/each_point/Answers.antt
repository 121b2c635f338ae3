use Rattle.std.proofs.Common.{◌<◌, [], ◌∷◌, ◌++◌, length, map, true, ◌≡◌, ap, sym, ◌∙◌, arith}
use Rattle.vtl_cell.specs.Outcome.{join}
use Rattle.vtl_rows.specs.Tables.{fits}
use Rattle.vtl_tree.specs.DataSet.{is_point}
use Rattle.vtl_tree.specs.Structure.{columns_of}
use Rattle.vtl_tree.specs.View.{comp_exp_of}
use Rattle.vtl_meaning.specs.Points.{point_fault, point_of}
use Rattle.vtl_scalar.specs.Seen.{seen_of}
use Rattle.vtl_expr.proofs.PointLemmas.{fault_prepared, fitting, holds_at, point_prepared, rows_more}
use Rattle.vtl_expr.proofs.Walks.{seen_more}
use Rattle.vtl_expr.proofs.points.each_point.Goals as goal

pub push_values-requires : goal.push_values-requires
push_values-requires c =
    let p = c.args.p.now in
    let es = map comp_exp_of c.args.exps.now in
    let r = c.row.result.now in
    let rows = c.table-table.result.now.rows in
    let xs = columns_of c.args.a.now.structure in
    let within : c.loop-i.i < length rows = omega (arith, c.len-i-end.ensures.rows, c.loop-i-test.true) in
    ap (fits c.loop-i.points.table.columns) (point_prepared p c.deref.result.now c.in_ok-prepared.prepared.items es c.deref.ensures.value c.in_ok-prepared.ensures c.of.result ∙ ap (point_of p es) c.of.ensures)
    ∙ ap (λ columns. fits columns (point_of p es r)) c.loop-i.invariant.columns
    ∙ fitting p xs es (columns_of c.args.made.now) r c.requires.expressions (holds_at (λ x. is_point xs x ≡ true) rows c.loop-i.i r c.table-table.ensures.table.points.typed within c.row.ensures.row)

pub loop-i-preserved : goal.loop-i-preserved
loop-i-preserved c =
    let p = c.args.p.now in
    let es = map comp_exp_of c.args.exps.now in
    let r = c.row.result.now in
    let rows = c.table-table.result.now.rows in
    let i = c.loop-i.i in
    let within : i < length rows = omega (arith, c.len-i-end.ensures.rows, c.loop-i-test.true) in
    let lent = c.deref.result.now in
    let items = c.in_ok-prepared.prepared.items in
    record {
      columns = c.push_values.ensures.columns ∙ c.loop-i.invariant.columns;
      rows = c.in_ok-push_values.ensures.rows ∙ ap (λ x. c.loop-i.points.table.rows ++ x ∷ []) (point_prepared p lent items es c.deref.ensures.value c.in_ok-prepared.ensures c.of.result ∙ ap (point_of p es) c.of.ensures)
          ∙ ap (λ l. l ++ point_of p es r ∷ []) c.loop-i.invariant.rows ∙ sym (rows_more (point_of p es) rows i r within c.row.ensures.row);
      seen = seen_more (point_fault p es) rows i r (seen_of c.loop-i.points.seen) (seen_of c.push_values.new.points.seen) within c.row.ensures.row c.loop-i.invariant.seen
          (c.in_ok-push_values.ensures.seen ∙ ap (join (seen_of c.loop-i.points.seen)) (fault_prepared p lent items es c.deref.ensures.value c.in_ok-prepared.ensures c.of.result ∙ ap (point_fault p es) c.of.ensures));
    }
