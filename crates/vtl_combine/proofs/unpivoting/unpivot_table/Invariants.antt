use Rattle.std.proofs.Common.{◌≡◌, map, take}
use Rattle.std.specs.List.{flat_map}
use Rattle.vtl_sets.specs.TableOf.{table_columns}
use Rattle.vtl_combine.specs.Unpivots.{measure_by, unpivoted}
use Rattle.vtl_combine.proofs.unpivoting.unpivot_table.Given as goal

abbrev pub invariant-loop-i : goal.invariant-loop-i
invariant-loop-i l = record {
  columns : l.out.columns ≡ table_columns l.made;
  rows : l.out.rows ≡ flat_map (unpivoted l.identifiers.items (map measure_by l.measures.items)) (take l.i l.table.rows);
}
