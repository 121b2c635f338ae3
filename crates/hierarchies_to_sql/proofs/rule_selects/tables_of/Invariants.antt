use Rattle.std.proofs.Common.{◌≡◌, map, take}
use Rattle.hierarchies_to_sql.specs.RuleItems.{tables_in}
use Rattle.hierarchies_to_sql.proofs.rule_selects.tables_of.Given as goal

abbrev pub invariant-loop-item : goal.invariant-loop-item
invariant-loop-item l = l.found.items ≡ map (tables_in l.tables) (take l.item-index l.items)
