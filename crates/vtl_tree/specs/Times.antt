-- The time of a data set, its one identifier that holds periods; and what flows and stocks have.
use Rattle.std.specs.Prelude.{Bool, ◌&&◌, ◌++◌, List, [], Some, None, cond, filter, length, nat_eq}
use Rattle.vtl_cell.specs.AggregateKinds.{is_number}
use Rattle.vtl_cell.specs.Kinds.{same_kind}
use Rattle.vtl_cell.specs.declared.kind.Kind.TheVariants as k
use Rattle.vtl_tree.specs.Choices.{chosen}
use Rattle.vtl_tree.specs.Measures.{Gives, given_measures}
use Rattle.vtl_tree.specs.Structure.{same_role}
use Rattle.vtl_tree.specs.declared.choices.Choice.TheVariants as choice
use Rattle.vtl_tree.specs.declared.measures.Outcome.TheVariants as outcome
use Rattle.vtl_tree.specs.declared.structure.Component.{Component}
use Rattle.vtl_tree.specs.declared.structure.Role.TheVariants as role
use Rattle.vtl_tree.specs.declared.structure.Structure.{Structure}

-- an identifier that holds periods
abbrev pub is_time : Component → Bool
is_time x = same_role x.role role.Identifier && same_kind x.kind k.Period

abbrev pub times_of : Structure → List Component
times_of s = filter is_time s.components

-- exactly one identifier does
abbrev pub has_time : Structure → Bool
has_time s = nat_eq (length (times_of s)) 1

-- flows and stocks are numbers or integers, and keep their kind
abbrev pub flow_gives : Gives
flow_gives a b = cond (is_number a) (Some a) None

-- the identifiers, and a measure for each measure
abbrev pub flow_components : List Component → List Component
flow_components xs = chosen choice.Except [] xs ++ given_measures outcome.Each flow_gives None xs
