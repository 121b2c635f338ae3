use Rattle.std.proofs.Common.{◌≡◌, map, take}
use Rattle.vtl_tree.specs.Shown.{shown}
use Rattle.sql_tree.specs.View.{select_tree}
use Rattle.selects_to_sql.specs.Queries.{alias_of}
use Rattle.hierarchies_to_sql.specs.RuleItems.{checked_selects_as, ruled_of, tables_in}
use Rattle.hierarchies_to_sql.proofs.checks.checked_selects.Given as goal

abbrev pub invariant-loop-rule : goal.invariant-loop-rule
invariant-loop-rule l =
    (l.number ≡ l.rule-index)
    × (map select_tree l.selects.items ≡ checked_selects_as l.writer (ruled_of l.tabled.measured) l.mode (alias_of 0) l.tabled.keys (shown l.tabled.others.items) (tables_in l.tabled.tables) l.output (shown l.columns.identifiers.now) (shown l.columns.result.now) 1 (take l.rule-index l.rules))
