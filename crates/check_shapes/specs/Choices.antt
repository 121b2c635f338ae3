-- Components that are chosen by their roles and names.
use Rattle.std.specs.Prelude.{ℕ, List, Result}
use Rattle.vtl_tree.specs.declared.structure.Component.{Component}
use Rattle.check_shapes.specs.Names.{all_known}
use Rattle.vtl_lists.specs.Results.{◌>>=◌}
use Rattle.check_faults.specs.declared.rules.Rule.{Rule}
use Rattle.check_shapes.specs.Shape.{shaped}
use Rattle.vtl_tree.specs.declared.names.Wanted.{Wanted}
use Rattle.vtl_tree.specs.declared.structure.Structure.{Structure}
use Rattle.vtl_tree.specs.declared.choices.Choice.{Choice}
use Rattle.vtl_tree.specs.Choices.{chosen}

-- the clauses `keep` and `drop` (a measure or an attribute is wanted) and `sub` (an identifier), and `#` (one name, a measure): names
-- in written order, and then what is chosen by them
abbrev pub choice_form : Wanted → Choice → List (List ℕ) → List Component → Result Structure Rule
choice_form w c names xs = all_known w xs names >>= λ u. shaped (chosen c names xs)
