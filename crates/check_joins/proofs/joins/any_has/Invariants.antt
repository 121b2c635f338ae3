use Rattle.std.proofs.Common.{◌≡◌, drop}
use Rattle.std.specs.List.{list_any}
use Rattle.std.specs.Prelude.{is_some}
use Rattle.vtl_tree.specs.Names.{component_of}
use Rattle.check_joins.proofs.joins.any_has.Given as goal

abbrev pub invariant-loop-operand : goal.invariant-loop-operand
invariant-loop-operand l = list_any (λ o. is_some (component_of l.name o.structure.components)) (drop l.operand-index l.operands) ≡ list_any (λ o. is_some (component_of l.name o.structure.components)) l.operands
