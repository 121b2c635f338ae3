-- Joins: which operands go together, the joined set, and the names in it.
use Rattle.std.specs.Prelude.{ℕ, Bool, not, ◌&&◌, List, [], ◌∷◌, Option, Some, None, Result, Err, length, nat_lt, is_some, unwrap_or}
use Rattle.std.specs.List.{list_any}
use Rattle.vtl_syntax.specs.declared.word_groups.JoinKind.{JoinKind}
use Rattle.vtl_tree.specs.Structure.{most_components}
use Rattle.vtl_tree.specs.declared.structure.Structure.{Structure}
use Rattle.vtl_lists.specs.Results.{◌>>=◌}
use Rattle.check_faults.specs.InTurn.{in_turn}
use Rattle.check_faults.specs.Rules.{ruled, Tests}
use Rattle.check_faults.specs.declared.rules.Rule.{Rule}
use Rattle.check_faults.specs.declared.rules.Rule.TheVariants as rule
use Rattle.vtl_tree.specs.Choices.{is_identifier_name}
use Rattle.vtl_tree.specs.Names.{component_of, is_among}
use Rattle.check_shapes.specs.Shape.{shaped}
use Rattle.vtl_tree.specs.declared.joins.Operand.{Operand}
use Rattle.vtl_tree.specs.Joins.{go_together, held_names, joined_name, joined_components, takes_using, taken, operand_of, holds, is_reference}

-- a name behind `using`: no operand has it, it stands there already, it is never an identifier
abbrev pub using_tests : List Operand → List (List ℕ) → List ℕ → Tests
using_tests os before name =
    (rule.UnknownComponent, not (list_any (λ o. is_some (component_of name o.structure.components)) os))
    ∷ (rule.RepeatedName, is_among name before)
    ∷ (rule.WrongRole, not (list_any (λ o. is_identifier_name o.structure.components name) os)) ∷ []

-- the name itself, behind other names
abbrev pub using_name : List Operand → List (List ℕ) → List ℕ → Result (List ℕ) Rule
using_name os before name = ruled (using_tests os before name) name

-- the names behind `using`, each behind those before it; none where there is no `using`
abbrev pub using_form : List Operand → Option (List (List ℕ)) → Result (List (List ℕ)) Rule
using_form os listed = in_turn (using_name os) [] (unwrap_or listed [])

abbrev pub is_misused : JoinKind → Option (List (List ℕ)) → Bool
is_misused kind listed = is_some listed && not (takes_using kind)

-- the rules that the join can break before its joined set is made: the identifiers of its operands, and the size of the set
abbrev pub join_tests : JoinKind → Option (List (List ℕ)) → List Operand → Tests
join_tests kind listed os =
    (rule.IdentifiersDisagree, not (go_together kind listed os))
    ∷ (rule.ComponentCount, nat_lt most_components (length (held_names kind os))) ∷ []

-- a join: the names behind `using`, and then the structure of the joined set; that the join takes no `using` is the last of the
-- rules that it can break
abbrev pub join_form : JoinKind → Option (List (List ℕ)) → List Operand → Result Structure Rule
join_form kind listed os =
    using_form os listed
    >>= λ names. ruled (join_tests kind (taken kind listed) os) (tt {0})
    >>= λ v. shaped (joined_components kind (held_names kind os) os)
    >>= λ s. ruled ((rule.JoinMisuse, is_misused kind listed) ∷ []) s

abbrev pub member_of : JoinKind → List Operand → List (List ℕ) → List ℕ → Option Operand → Result (List ℕ) Rule
member_of kind os held name None = Err rule.UnknownComponent
member_of kind os held name (Some o) = ruled ((rule.UnknownComponent, not (holds kind (is_reference kind os o.alias) o name)) ∷ []) (joined_name held o.alias name)

-- the name in the joined set that `alias#name` stands for, by the names that operands hold
abbrev pub member_form : JoinKind → List Operand → List (List ℕ) → List ℕ → List ℕ → Result (List ℕ) Rule
member_form kind os held alias name = member_of kind os held name (operand_of alias os)
