use Rattle.std.proofs.Common.{◌≡◌, map, take}
use Rattle.vtl_tree.specs.NodeView.{point_rule_tree}
use Rattle.vtl_tree.specs.Shown.{shown}
use Rattle.sql_tree.specs.View.{select_tree}
use Rattle.rules_to_sql.specs.Items.{ruled_selects_as}
use Rattle.rules_to_sql.proofs.point_queries.ruled_selects.Given as goal

abbrev pub invariant-loop-rule : goal.invariant-loop-rule
invariant-loop-rule l =
    (l.number ≡ l.rule-index)
    × (map select_tree l.selects.items ≡ ruled_selects_as l.writer l.output (shown l.identifiers) (shown l.measures) (shown l.columns) l.table 1 (map point_rule_tree (take l.rule-index l.rules)))
