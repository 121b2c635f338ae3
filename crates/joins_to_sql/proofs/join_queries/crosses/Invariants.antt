use Rattle.std.proofs.Common.{◌≡◌, map, take}
use Rattle.sql_tree.specs.View.{join_tree}
use Rattle.joins_to_sql.specs.JoinItems.{aliased_of, crossed_with}
use Rattle.joins_to_sql.proofs.join_queries.crosses.Given as goal

abbrev pub invariant-loop-operand : goal.invariant-loop-operand
invariant-loop-operand l = map join_tree l.joins.items ≡ map crossed_with (map aliased_of (take l.operand-index l.operands))
