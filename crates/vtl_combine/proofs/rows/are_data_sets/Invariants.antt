use Rattle.std.proofs.Common.{All, take}
use Rattle.vtl_tree.specs.DataSet.{IsDataSet}
use Rattle.vtl_combine.proofs.rows.are_data_sets.Given as goal

abbrev pub invariant-loop-operand : goal.invariant-loop-operand
invariant-loop-operand l = All (λ d. IsDataSet d.now.structure d.now.points) (take l.operand-index l.operands)
