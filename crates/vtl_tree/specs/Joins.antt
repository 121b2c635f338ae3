-- Joins as structures: which operands go together, the joined set, and the names in it.
use Rattle.std.specs.Prelude.{ℕ, Bool, true, false, not, ◌&&◌, ◌||◌, ◌++◌, List, [], ◌∷◌, Option, Some, None, filter, find, flat_map, map, count_by, nat_lt, slice_get, if◌then◌else◌}
use Rattle.std.specs.List.{list_any, list_all}
use Rattle.std.specs.Option.{option_map_or}
use Rattle.vtl_syntax.specs.declared.word_groups.JoinKind.{JoinKind}
use Rattle.vtl_syntax.specs.declared.word_groups.JoinKind.TheVariants as join
use Rattle.vtl_tree.specs.Structure.{names_of, same_name}
use Rattle.vtl_tree.specs.declared.structure.Role.TheVariants as role
use Rattle.vtl_tree.specs.declared.structure.Component.{Component}
use Rattle.vtl_tree.specs.declared.structure.Structure.{Structure}
use Rattle.vtl_tree.specs.Choices.{is_identifier, is_identifier_name}
use Rattle.vtl_tree.specs.Names.{component_of, is_among}
use Rattle.vtl_tree.specs.Operands.{agree, agreed_identifiers}
use Rattle.vtl_tree.specs.Pairs.{contains}
use Rattle.vtl_tree.specs.declared.joins.Operand.{Operand}
use Rattle.vtl_tree.specs.declared.operands.Compared.TheVariants as compared
use Rattle.vtl_tree.specs.declared.renaming.Renaming.{Renaming}

abbrev pub structures_of : List Operand → List Structure
structures_of os = map (λ o. o.structure) os

-- the identifiers of an operand contain those of every operand
abbrev pub contains_all : List Operand → Operand → Bool
contains_all os o = list_all (λ x. contains o.structure x.structure) os

-- the first operand whose identifiers contain those of every other one
abbrev pub containing : List Operand → Option Operand
containing os = find (contains_all os) os

-- the reference: in an inner join the operand that contains the others, in the other joins the first one
abbrev pub reference : JoinKind → List Operand → Option Operand
reference join.Inner os = containing os
reference kind os = slice_get os 0

-- the identifiers of an operand are exactly these
abbrev pub is_exactly : List (List ℕ) → List Component → Bool
is_exactly names xs = list_all (λ x. is_among x.name names) (filter is_identifier xs) && list_all (is_identifier_name xs) names

-- an identifier of the reference is a measure or an attribute of the operand
abbrev pub clashes : List Component → Component → Bool
clashes rs x = not (is_identifier x) && is_identifier_name rs x.name

-- the identifiers of an operand agree with those of the reference as the join requires
abbrev pub agrees : JoinKind → Option (List (List ℕ)) → Structure → Structure → Bool
agrees kind (Some names) r s = contains r s && is_exactly names s.components
agrees join.Inner None r s = contains r s
agrees kind None r s = agree compared.Kinds role.Identifier r.components s.components

-- an operand goes with the reference
abbrev pub goes_with : JoinKind → Option (List (List ℕ)) → Structure → Operand → Bool
goes_with kind listed r o = agrees kind listed r o.structure && not (list_any (clashes r.components) o.structure.components)

-- each operand but the reference does
abbrev pub all_go_with : JoinKind → Option (List (List ℕ)) → (r : Operand) → List Operand → Bool
all_go_with kind listed r os = list_all (λ o. same_name o.alias r.alias || goes_with kind listed r.structure o) os

abbrev pub is_cross : JoinKind → Bool
is_cross join.Cross = true
is_cross kind = false

-- each operand but the reference goes with it, where there is one; in a cross join all go together
abbrev pub go_with : JoinKind → Option (List (List ℕ)) → List Operand → Option Operand → Bool
go_with kind listed os None = false
go_with kind listed os (Some r) = is_cross kind || all_go_with kind listed r os

abbrev pub go_together : JoinKind → Option (List (List ℕ)) → List Operand → Bool
go_together kind listed os = go_with kind listed os (reference kind os)

-- the components that are held by their operand alone; a shared identifier is the reference's, but in a cross join each operand
-- keeps its own
abbrev pub is_held : JoinKind → Component → Bool
is_held kind x = is_cross kind || not (is_identifier x)

abbrev pub held_by : JoinKind → Operand → List (List ℕ)
held_by kind o = names_of (filter (is_held kind) o.structure.components)

-- their names, operand by operand
abbrev pub held_names : JoinKind → List Operand → List (List ℕ)
held_names kind os = flat_map (held_by kind) os

-- several operands hold this name
unfoldable pub is_shared : List (List ℕ) → List ℕ → Bool
is_shared held name = nat_lt 1 (count_by (λ other. same_name other name) held)

abbrev pub with_mark : List ℕ → List ℕ
with_mark alias = alias ++ 39 ∷ []

-- `alias'name`, which no component of an operand is named
abbrev pub marked : List ℕ → List ℕ → List ℕ
marked alias name = with_mark alias ++ name

-- a name of an operand inside the joined set
unfoldable pub joined_name : List (List ℕ) → List ℕ → List ℕ → List ℕ
joined_name held alias name = if is_shared held name then marked alias name else name

abbrev pub joined : List (List ℕ) → List ℕ → Component → Component
joined held alias x = record x { name = joined_name held alias x.name }

-- the identifiers, or the other components
abbrev pub is_part : Bool → Component → Bool
is_part true x = is_identifier x
is_part false x = not (is_identifier x)

abbrev pub own : List (List ℕ) → Bool → List ℕ → List Component → List Component
own held identifiers alias xs = map (joined held alias) (filter (is_part identifiers) xs)

-- those of all operands, as they are named in the joined set
abbrev pub all_own : List (List ℕ) → Bool → List Operand → List Component
all_own held identifiers os = flat_map (λ o. own held identifiers o.alias o.structure.components) os

-- the reference's identifiers; in a cross join those of all operands
abbrev pub joined_identifiers : Bool → List (List ℕ) → List Operand → Option Operand → List Component
joined_identifiers true held os r = all_own held true os
joined_identifiers false held os None = []
joined_identifiers false held os (Some r) = agreed_identifiers (structures_of os) r.structure.components

-- the joined set: identifiers, then the other components operand by operand
abbrev pub joined_components : JoinKind → List (List ℕ) → List Operand → List Component
joined_components kind held os = joined_identifiers (is_cross kind) held os (reference kind os) ++ all_own held false os

-- only inner and left joins take `using`
abbrev pub takes_using : JoinKind → Bool
takes_using join.Inner = true
takes_using join.Left = true
takes_using kind = false

-- the names by which operands go together: a join that takes no `using` goes by all identifiers
abbrev pub taken : JoinKind → Option (List (List ℕ)) → Option (List (List ℕ))
taken kind listed = if takes_using kind then listed else None

-- the operand of this alias
abbrev pub operand_of : List ℕ → List Operand → Option Operand
operand_of alias os = find (λ o. same_name o.alias alias) os

-- `alias#name`: a component that the operand holds, or in the reference a shared identifier
abbrev pub holds : JoinKind → Bool → Operand → List ℕ → Bool
holds kind is_reference o name = option_map_or (λ x. is_reference || is_held kind x) (component_of name o.structure.components) false

abbrev pub is_reference : JoinKind → List Operand → List ℕ → Bool
is_reference kind os alias = option_map_or (λ o. same_name o.alias alias) (reference kind os) false

-- the last naming: what is still named `alias'name` becomes `name`
abbrev pub plain : List (List ℕ) → List ℕ → Component → Renaming
plain held alias x = record { from = joined_name held alias x.name; to = x.name }

abbrev pub is_marked : JoinKind → List (List ℕ) → Component → Bool
is_marked kind held x = is_held kind x && is_shared held x.name

abbrev pub own_renamings : JoinKind → List (List ℕ) → List ℕ → List Component → List Renaming
own_renamings kind held alias xs = map (plain held alias) (filter (is_marked kind held) xs)

abbrev pub last_renamings : JoinKind → List (List ℕ) → List Operand → List Renaming
last_renamings kind held os = flat_map (λ o. own_renamings kind held o.alias o.structure.components) os
