use Rattle.std.proofs.Common.{◌≡◌, take}
use Rattle.std.specs.List.{flat_map}
use Rattle.vtl_index.specs.Seekers.{is_any_meant}
use Rattle.vtl_sets.specs.TableOf.{table_columns}
use Rattle.vtl_combine.specs.Existence.{answered}
use Rattle.vtl_combine.proofs.existence.existence_table.Given as goal

abbrev pub invariant-loop-i : goal.invariant-loop-i
invariant-loop-i g l = record {
  columns : l.out.columns ≡ table_columns l.made;
  rows : l.out.rows ≡ flat_map (λ r. answered l.retain l.identifiers.items r (is_any_meant l.seeker r)) (take l.i l.table.rows);
}
