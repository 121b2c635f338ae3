use Rattle.std.proofs.Common.{take}
use Rattle.vtl_tree.specs.Shown.{shown}
use Rattle.selects_to_sql.specs.NamedItems.{AreNext}
use Rattle.hierarchies_to_sql.specs.RuleItems.{keys_as}
use Rattle.hierarchies_to_sql.proofs.rule_selects.push_keys.Given as goal

abbrev pub invariant-loop-identifier : goal.invariant-loop-identifier
invariant-loop-identifier l = AreNext l.fn.items.items l.items.items (keys_as l.id l.alias l.item (shown (take l.identifier-index l.identifiers))) (shown l.columns)
