use Rattle.std.proofs.Common.{◌≡◌, map, take}
use Rattle.vtl_tree.specs.Shown.{shown}
use Rattle.sql_tree.specs.View.{select_tree}
use Rattle.hierarchies_to_sql.specs.RuleItems.{points_as, ruled_of, tables_in}
use Rattle.hierarchies_to_sql.proofs.computed.all_points.Given as goal

abbrev pub invariant-loop-rule : goal.invariant-loop-rule
invariant-loop-rule l = map select_tree l.selects.items ≡ map (points_as (ruled_of l.measured) (shown l.identifiers) (shown l.columns) (tables_in l.computed)) (shown (take l.rule-index l.rules))
