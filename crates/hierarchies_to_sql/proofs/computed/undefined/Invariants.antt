use Rattle.std.proofs.Common.{◌≡◌, take}
use Rattle.std.specs.List.{filter}
use Rattle.vtl_syntax.specs.declared.word_groups.HierInput.TheVariants as input
use Rattle.vtl_tree.specs.Shown.{shown}
use Rattle.hierarchies_to_sql.specs.ComputedTables.{is_given}
use Rattle.hierarchies_to_sql.proofs.computed.undefined.Given as goal

abbrev pub invariant-loop-item : goal.invariant-loop-item
invariant-loop-item l = l.left.items ≡ filter (is_given input.Rule (shown l.rules)) (take l.item-index l.items)
