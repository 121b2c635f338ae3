use Rattle.std.proofs.Common.{◌≡◌, ◌++◌, map, take}
use Rattle.sql_tree.specs.View.{join_tree}
use Rattle.joins_to_sql.specs.JoinItems.{aliased_of, joined_with}
use Rattle.joins_to_sql.proofs.join_queries.push_joined.Given as goal

abbrev pub invariant-loop-operand : goal.invariant-loop-operand
invariant-loop-operand l = map join_tree l.joins.items ≡ map join_tree l.fn.joins.items ++ map (joined_with l.kind (aliased_of l.reference)) (map aliased_of (take l.operand-index l.operands))
