use Rattle.std.proofs.Common.{◌≡◌, map, take}
use Rattle.vtl_tree.specs.Shown.{shown}
use Rattle.sql_tree.specs.View.{join_tree}
use Rattle.hierarchies_to_sql.specs.RuleItems.{joins_as}
use Rattle.hierarchies_to_sql.proofs.rule_selects.joins.Given as goal

abbrev pub invariant-loop-i : goal.invariant-loop-i
invariant-loop-i l = map join_tree l.joins.items ≡ joins_as l.first (shown l.columns) (take l.i l.aliases) (take l.i l.tables)
