use Rattle.std.proofs.Common.{◌≡◌, ◌++◌, map, take}
use Rattle.vtl_tree.specs.Structure.{of_role}
use Rattle.joins_to_sql.specs.JoinItems.{aliased_of, columns_from_all, picked_column}
use Rattle.joins_to_sql.proofs.join_items.push_roles.Given as goal

abbrev pub invariant-loop-operand : goal.invariant-loop-operand
invariant-loop-operand l = map picked_column l.picked.items ≡ map picked_column l.fn.picked.items ++ columns_from_all (of_role l.role) (map aliased_of (take l.operand-index l.operands))
