use Rattle.std.proofs.Common.{map, take}
use Rattle.vtl_tree.specs.Shown.{shown}
use Rattle.joins_to_sql.specs.JoinItems.{column_from}
use Rattle.selects_to_sql.specs.NamedItems.{AreNext}
use Rattle.hierarchies_to_sql.proofs.rule_selects.push_from.Given as goal

abbrev pub invariant-loop-component : goal.invariant-loop-component
invariant-loop-component l = AreNext l.fn.items.items l.items.items (map (column_from l.alias) (shown (take l.component-index l.components))) (shown l.columns)
