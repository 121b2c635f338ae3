-- The clauses, behind the parts that are expressions. The clauses of a join's body see the operands of the join.
use Rattle.std.specs.Prelude.{ℕ, List, [], Option, option_and_then, Result, Ok, map}
use Rattle.std.specs.Result.{result_ok}
use Rattle.vtl_decimal.specs.Settings.{Settings}
use Rattle.vtl_cell.specs.Conversion.{as_kind}
use Rattle.vtl_cell.specs.declared.cell.Cell.{Cell}
use Rattle.vtl_cell.specs.declared.kind.Kind.{Kind}
use Rattle.vtl_syntax.specs.declared.parts.Comp.{Comp}
use Rattle.vtl_syntax.specs.declared.parts.Keeping.{Keeping}
use Rattle.vtl_syntax.specs.declared.parts.Keeping.TheVariants as keeping
use Rattle.vtl_syntax.specs.declared.parts.Literal.{Literal}
use Rattle.vtl_syntax.specs.declared.parts.Reference.{Reference}
use Rattle.vtl_syntax.specs.declared.parts.RenamePart.{RenamePart}
use Rattle.vtl_syntax.specs.declared.parts.SubPart.{SubPart}
use Rattle.vtl_tree.specs.declared.structure.Component.{Component}
use Rattle.vtl_tree.specs.declared.structure.Structure.{Structure}
use Rattle.vtl_tree.specs.Trees as nodes
use Rattle.vtl_tree.specs.Trees.{FormTree, NodeTree, node, structure_of}
use Rattle.vtl_tree.specs.declared.clauses.SubItem.{SubItem}
use Rattle.vtl_lists.specs.Results.{◌>>=◌}
use Rattle.check_faults.specs.InTurn.{in_turn}
use Rattle.check_faults.specs.declared.rules.Rule.{Rule}
use Rattle.vtl_tree.specs.Choices.{chosen}
use Rattle.check_shapes.specs.Clauses.{pivot_form, rename_form, unpivot_form}
use Rattle.check_shapes.specs.Names.{known, known_name}
use Rattle.check_shapes.specs.Shape.{shaped}
use Rattle.vtl_tree.specs.declared.choices.Choice.{Choice}
use Rattle.vtl_tree.specs.declared.choices.Choice.TheVariants as choice
use Rattle.vtl_tree.specs.declared.names.Wanted.{Wanted}
use Rattle.vtl_tree.specs.declared.names.Wanted.TheVariants as wanted
use Rattle.vtl_tree.specs.declared.renaming.Renaming.{Renaming}
use Rattle.vtl_tree.specs.Names.{name_of}
use Rattle.check_values.specs.Literals.{kind_met, literal_cell, literal_kind, valued}
use Rattle.check_operators.specs.Places.{name_written, written_by}
use Rattle.check_operators.specs.Typed.{TypedTree, components_in, condition_in}
use Rattle.check_operators.specs.declared.places.Joined.{Joined}

abbrev pub made_of : FormTree → Structure → Result NodeTree Rule
made_of form s = Ok (node s form)

-- `filter`
unfoldable pub filter_form : NodeTree → TypedTree → Result NodeTree Rule
filter_form n x = condition_in x >>= λ e. made_of (nodes.filter n e) (structure_of n)

-- ---- `keep` and `drop`
-- the name that a reference is, which stands for a component of the wanted role behind other names
unfoldable pub name_known : Option Joined → Wanted → List Component → List (List ℕ) → Reference → Result (List ℕ) Rule
name_known j w xs before r = name_written j (written_by r) >>= known_name w xs before

-- the names that references are, as the wanted role asks of each
abbrev pub names_typed : Option Joined → Wanted → List Component → List Reference → Result (List (List ℕ)) Rule
names_typed j w xs rs = in_turn (name_known j w xs) [] rs

abbrev pub keeping_choice : Keeping → Choice
keeping_choice (keeping.Keep rs) = choice.Keep
keeping_choice (keeping.Drop rs) = choice.Drop

abbrev pub references_in : Keeping → List Reference
references_in (keeping.Keep rs) = rs
references_in (keeping.Drop rs) = rs

abbrev pub keeping_tree : Keeping → NodeTree → List (List ℕ) → FormTree
keeping_tree (keeping.Keep rs) n names = nodes.keep n names
keeping_tree (keeping.Drop rs) n names = nodes.drop_named n names

abbrev pub kept_of : Keeping → NodeTree → List (List ℕ) → Result NodeTree Rule
kept_of k n names = shaped (chosen (keeping_choice k) names (components_in n)) >>= made_of (keeping_tree k n names)

unfoldable pub keeping_form : Option Joined → NodeTree → Keeping → Result NodeTree Rule
keeping_form j n k = names_typed j wanted.Value (components_in n) (references_in k) >>= kept_of k n

-- ---- `rename`
abbrev pub renaming_to : RenamePart → List ℕ → Renaming
renaming_to r name = record { from = name; to = name_of r.to }

abbrev pub old_names : List Renaming → List (List ℕ)
old_names rs = map (λ r. r.from) rs

-- a renaming behind others, whose old names these are
unfoldable pub renaming_known : Option Joined → List Component → List (List ℕ) → RenamePart → Result Renaming Rule
renaming_known j xs before r = name_known j wanted.Any xs before r.from >>= λ name. Ok (renaming_to r name)

abbrev pub renamings_typed : Option Joined → List Component → List RenamePart → Result (List Renaming) Rule
renamings_typed j xs rs = in_turn (λ done. renaming_known j xs (old_names done)) [] rs

abbrev pub renamed_of : NodeTree → List Renaming → Result NodeTree Rule
renamed_of n rs = rename_form rs (components_in n) >>= made_of (nodes.rename n rs)

unfoldable pub renaming_form : Option Joined → NodeTree → List RenamePart → Result NodeTree Rule
renaming_form j n rs = renamings_typed j (components_in n) rs >>= renamed_of n

-- ---- `sub`
-- the value of a literal as one of this kind
abbrev pub cell_as : Settings → Kind → Option Cell → Option Cell
cell_as p kind cell = option_and_then (λ c. result_ok (as_kind p kind c)) cell

-- an identifier's value: a literal of its kind that has a value
abbrev pub sub_value : Settings → Kind → Literal → Result Cell Rule
sub_value p kind l = kind_met kind (literal_kind l) >>= λ u. valued (cell_as p kind (literal_cell p l))

abbrev pub sub_item : List ℕ → Cell → SubItem
sub_item name cell = record { id = name; value = cell }

-- an identifier with its value, behind others of these names
unfoldable pub sub_known : Settings → List Component → List (List ℕ) → SubPart → Result SubItem Rule
sub_known p xs before s =
    known wanted.Identifier xs before (name_of s.component) >>= λ x. sub_value p x.kind s.value
    >>= λ cell. Ok (sub_item (name_of s.component) cell)

abbrev pub sub_names : List SubItem → List (List ℕ)
sub_names items = map (λ i. i.id) items

abbrev pub subs_typed : Settings → List Component → List SubPart → Result (List SubItem) Rule
subs_typed p xs ss = in_turn (λ done. sub_known p xs (sub_names done)) [] ss

abbrev pub sub_of : NodeTree → List SubItem → Result NodeTree Rule
sub_of n items = shaped (chosen choice.Drop (sub_names items) (components_in n)) >>= made_of (nodes.sub n items)

unfoldable pub sub_form : Settings → NodeTree → List SubPart → Result NodeTree Rule
sub_form p n ss = subs_typed p (components_in n) ss >>= sub_of n

-- ---- `pivot` and `unpivot`
-- the two names of `pivot`: an identifier and a measure
abbrev pub pivot_names : List ℕ → List ℕ → List Component → Result (Unit {0}) Rule
pivot_names id m xs = known wanted.Identifier xs [] id >>= λ x. known wanted.Measure xs [] m >>= λ y. Ok tt

-- both names, and then what the clause can break, `NoCodes` too
unfoldable pub pivot_of : Comp → Comp → NodeTree → Result NodeTree Rule
pivot_of id m n =
    pivot_names (name_of id) (name_of m) (components_in n) >>= λ u. pivot_form (name_of id) (name_of m) (components_in n)
    >>= made_of (nodes.pivot n (name_of id) (name_of m))

unfoldable pub unpivot_of : Comp → Comp → NodeTree → Result NodeTree Rule
unpivot_of id m n = unpivot_form (name_of id) (name_of m) (components_in n) >>= made_of (nodes.unpivot n (name_of id) (name_of m))
