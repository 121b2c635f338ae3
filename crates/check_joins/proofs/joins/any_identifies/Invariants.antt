use Rattle.std.proofs.Common.{◌≡◌, drop}
use Rattle.std.specs.List.{list_any}
use Rattle.vtl_tree.specs.Choices.{is_identifier_name}
use Rattle.check_joins.proofs.joins.any_identifies.Given as goal

abbrev pub invariant-loop-operand : goal.invariant-loop-operand
invariant-loop-operand l = list_any (λ o. is_identifier_name o.structure.components l.name) (drop l.operand-index l.operands) ≡ list_any (λ o. is_identifier_name o.structure.components l.name) l.operands
