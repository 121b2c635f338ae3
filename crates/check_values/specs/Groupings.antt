-- How the points of a data set form groups.
use Rattle.std.specs.Prelude.{ℕ, List, [], Option, Some, None, Result, Ok, map}
use Rattle.vtl_syntax.specs.declared.parts.GroupPart.{GroupPart}
use Rattle.vtl_syntax.specs.declared.word_groups.GroupKind.{GroupKind}
use Rattle.vtl_syntax.specs.declared.word_groups.GroupKind.TheVariants as group
use Rattle.vtl_tree.specs.Structure.{names_of}
use Rattle.vtl_tree.specs.declared.structure.Component.{Component}
use Rattle.vtl_lists.specs.Results.{◌>>=◌}
use Rattle.check_faults.specs.declared.rules.Rule.{Rule}
use Rattle.vtl_tree.specs.Choices.{chosen}
use Rattle.check_shapes.specs.Names.{all_known}
use Rattle.vtl_tree.specs.declared.choices.Choice.{Choice}
use Rattle.vtl_tree.specs.declared.choices.Choice.TheVariants as choice
use Rattle.vtl_tree.specs.declared.names.Wanted.TheVariants as wanted
use Rattle.vtl_tree.specs.Names.{name_of}

abbrev pub choice_of : GroupKind → Choice
choice_of group.By = choice.By
choice_of group.Except = choice.Except

-- how groups are formed: without names there is one group
abbrev pub grouping_choice : Option GroupPart → Choice
grouping_choice None = choice.By
grouping_choice (Some g) = choice_of g.kind

abbrev pub grouping_names : Option GroupPart → List (List ℕ)
grouping_names None = []
grouping_names (Some g) = map name_of g.names

-- the identifiers by which the groups are formed, in the operand's order
abbrev pub grouping_of : Option GroupPart → List Component → List (List ℕ)
grouping_of g xs = names_of (chosen (grouping_choice g) (grouping_names g) xs)

-- the names of a grouping are those of identifiers
abbrev pub grouping_typed : List Component → Option GroupPart → Result (List (List ℕ)) Rule
grouping_typed xs g = all_known wanted.Identifier xs (grouping_names g) >>= λ u. Ok (grouping_of g xs)
