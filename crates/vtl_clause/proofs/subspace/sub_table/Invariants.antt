use Rattle.std.proofs.Common.{◌≡◌, map, take}
use Rattle.std.specs.List.{filter}
use Rattle.vtl_rows.specs.Tables.{cells_at}
use Rattle.vtl_sets.specs.TableOf.{table_columns}
use Rattle.vtl_clause.specs.Pins.{are_met, wanted_by}
use Rattle.vtl_clause.proofs.subspace.sub_table.Given as goal

abbrev pub invariant-loop-i : goal.invariant-loop-i
invariant-loop-i l = record {
  columns : l.out.columns ≡ table_columns l.made;
  rows : l.out.rows ≡ map (cells_at l.places.items) (filter (are_met (map wanted_by l.pins.items)) (take l.i l.table.rows));
}
