use Rattle.std.proofs.Common.{◌≡◌, take}
use Rattle.vtl_tree.specs.Shown.{shown}
use Rattle.hierarchies_to_sql.proofs.item_tables.shared.Given as goal

abbrev pub invariant-loop-component : goal.invariant-loop-component
invariant-loop-component l = l.same.items ≡ shown (take l.component-index l.components)
