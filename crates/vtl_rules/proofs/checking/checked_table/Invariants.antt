use Rattle.std.proofs.Common.{◌≡◌, take}
use Rattle.std.specs.List.{filter_map}
use Rattle.vtl_sets.specs.TableOf.{table_columns}
use Rattle.vtl_rules.specs.Imbalances.{checked_by}
use Rattle.vtl_rules.proofs.checking.checked_table.Given as goal

abbrev pub invariant-loop-i : goal.invariant-loop-i
invariant-loop-i g l = record {
  columns : l.out.columns ≡ table_columns l.made;
  rows : l.out.rows ≡ filter_map (checked_by l.p l.checking) (take l.i l.table.rows);
}
