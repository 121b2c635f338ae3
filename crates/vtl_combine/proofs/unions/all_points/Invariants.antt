use Rattle.std.proofs.Common.{◌≡◌, take}
use Rattle.std.specs.List.{flat_map}
use Rattle.vtl_sets.specs.TableOf.{table_columns}
use Rattle.vtl_meaning.specs.Operators.{left_of}
use Rattle.vtl_combine.proofs.unions.all_points.Given as goal

abbrev pub invariant-loop-operand : goal.invariant-loop-operand
invariant-loop-operand l = record {
  columns : l.all.columns ≡ table_columns l.made;
  rows : l.all.rows ≡ flat_map (λ d. left_of d.now l.made) (take l.operand-index l.operands);
}
