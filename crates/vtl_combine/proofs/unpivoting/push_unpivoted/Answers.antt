use Rattle.std.proofs.Common.{◌≡◌, ◌∙◌, true, sym, subst}
use Rattle.std.specs.Prelude.{IfSome, List}
use Rattle.vtl_cell.specs.Row.{Row}
use Rattle.vtl_rows.specs.Tables.{fits}
use Rattle.vtl_rows.specs.declared.column.Column.{Column}
use Rattle.vtl_combine.specs.Unpivots.{measure_by, named_row}
use Rattle.vtl_combine.proofs.UnpivotLemmas.{drawn_holds, drawn_next_behind}
use Rattle.vtl_combine.proofs.unpivoting.push_unpivoted.Goals as goal

pub push_value-requires : goal.push_value-requires
push_value-requires c =
    let h = named_row c.args.identifiers.now c.args.row.now in
    subst (λ (l : List Column). IfSome (h (measure_by c.measure-item.result)) (λ (q : Row). fits l q ≡ true)) (sym c.loop-measure.invariant.columns)
    (drawn_holds (λ (q : Row). fits c.args.out.now.columns q ≡ true) h measure_by c.args.measures.now c.loop-measure.measure-index c.measure-item.result c.requires c.loop-measure-test.true c.measure-item.is)

pub loop-measure-preserved : goal.loop-measure-preserved
loop-measure-preserved c =
    let h = named_row c.args.identifiers.now c.args.row.now in
    record {
      columns = c.push_value.ensures.columns ∙ c.loop-measure.invariant.columns;
      rows =
          drawn_next_behind h measure_by c.args.measures.now c.loop-measure.measure-index c.measure-item.result c.args.out.now.rows c.loop-measure.out.rows c.push_value.new.out.rows c.loop-measure-test.true
          c.measure-item.is c.loop-measure.invariant.rows c.in_ok-push_value.ensures.rows;
    }
