use Rattle.std.proofs.Common.{◌≡◌, take}
use Rattle.std.specs.List.{flat_map}
use Rattle.vtl_sets.specs.TableOf.{table_columns}
use Rattle.vtl_expr.specs.Choices.{chosen}
use Rattle.vtl_expr.proofs.choice.choice_table.Given as goal

abbrev pub invariant-loop-i : goal.invariant-loop-i
invariant-loop-i g l = record {
  columns : l.out.columns ≡ table_columns l.made;
  rows : l.out.rows ≡ flat_map (chosen l.choice) (take l.i l.table.rows);
}
