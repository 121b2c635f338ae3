use Rattle.std.proofs.Common.{◌≡◌, [], ◌∷◌, take}
use Rattle.std.specs.List.{filter}
use Rattle.vtl_tree.specs.Shown.{shown}
use Rattle.vtl_tree.specs.Choices.{is_chosen}
use Rattle.vtl_tree.specs.declared.choices.Choice.TheVariants as choice
use Rattle.hierarchies_to_sql.proofs.item_tables.other_identifiers.Given as goal

abbrev pub invariant-loop-component : goal.invariant-loop-component
invariant-loop-component l = shown l.others.items ≡ filter (is_chosen choice.Except (l.id ∷ [])) (take l.component-index l.component-items)
