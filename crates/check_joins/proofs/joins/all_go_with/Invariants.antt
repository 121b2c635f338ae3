use Rattle.std.proofs.Common.{◌≡◌, drop}
use Rattle.std.specs.Option.{option_copied}
use Rattle.vtl_tree.specs.Joins.{all_go_with}
use Rattle.check_joins.proofs.joins.all_go_with.Given as goal

abbrev pub invariant-loop-operand : goal.invariant-loop-operand
invariant-loop-operand l = all_go_with l.kind (option_copied l.listed) l.reference (drop l.operand-index l.operands) ≡ all_go_with l.kind (option_copied l.listed) l.reference l.operands
