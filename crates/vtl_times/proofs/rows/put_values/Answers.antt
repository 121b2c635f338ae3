use Rattle.std.proofs.Common.{[], ◌∷◌, ◌++◌, map, take, ap, sym, ◌∙◌, append_assoc}
use Rattle.vtl_cell.specs.Outcome.{fault_in, join}
use Rattle.vtl_tree.proofs.Faults.{join_assoc}
use Rattle.vtl_meaning.specs.Points.{cell_or_null}
use Rattle.vtl_scalar.specs.Seen.{seen_of}
use Rattle.vtl_times.specs.Columns.{cells_of, column_value, fault_of}
use Rattle.vtl_times.proofs.RowLemmas.{cells_more, fault_more}
use Rattle.vtl_times.proofs.rows.put_values.Goals as goal

pub loop-column-preserved : goal.loop-column-preserved
loop-column-preserved c =
    let f = column_value c.args.p.now c.args.row.now c.args.i in
    let columns = c.args.columns.now in
    let k = c.loop-column.column-index in
    let column = c.column-item.result in
    let v = f column in
    let old = c.args.points.now.cells.items in
    let before = seen_of c.args.points.now.seen in
    record {
      table = c.put.ensures.table ∙ c.loop-column.invariant.table;
      cells = c.in_ok-put.ensures.cells v c.value.ensures ∙ ap (λ l. l ++ cell_or_null v ∷ []) c.loop-column.invariant.cells ∙ append_assoc old (cells_of (map f (take k columns))) (cell_or_null v ∷ [])
          ∙ ap (λ l. old ++ l) (sym (cells_more f columns k column c.loop-column-test.true c.column-item.is));
      seen = c.in_ok-put.ensures.seen v c.value.ensures ∙ ap (λ s. join s (fault_in v)) c.loop-column.invariant.seen ∙ join_assoc before (fault_of (map f (take k columns))) (fault_in v)
          ∙ ap (join before) (sym (fault_more f columns k column c.loop-column-test.true c.column-item.is));
    }
