use Rattle.std.proofs.Common.{take}
use Rattle.std.specs.List.{AllByRecursion}
use Rattle.vtl_tree.specs.DataSet.{IsDataSet}
use Rattle.vtl_join.specs.Joining.{sets_of}
use Rattle.vtl_join.proofs.gathering.operands_are_sets.Given as goal

abbrev pub invariant-loop-operand : goal.invariant-loop-operand
invariant-loop-operand l = AllByRecursion (λ d. IsDataSet d.structure d.points) (sets_of (take l.operand-index l.operands))
