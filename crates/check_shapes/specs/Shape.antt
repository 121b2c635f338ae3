-- Components as the structure of a result.
use Rattle.std.specs.Prelude.{not, ◌||◌, List, [], ◌∷◌, length, nat_lt, nat_eq, Result}
use Rattle.std.specs.List.{list_any}
use Rattle.vtl_lists.specs.Apart.{all_apart}
use Rattle.vtl_tree.specs.Structure.{most_components, names_of, same_name}
use Rattle.vtl_tree.specs.Structures.{is_null_kind, structure_of}
use Rattle.vtl_tree.specs.declared.structure.Component.{Component}
use Rattle.vtl_tree.specs.declared.structure.Structure.{Structure}
use Rattle.check_faults.specs.Rules.{ruled, Tests}
use Rattle.check_faults.specs.declared.rules.Rule.{Rule}
use Rattle.check_faults.specs.declared.rules.Rule.TheVariants as rule

-- the rules that every result can break: a name stands twice, there is no component or too many, a kind is that of null
abbrev pub result_tests : List Component → Tests
result_tests xs =
    (rule.RepeatedComponent, not (all_apart same_name (names_of xs)))
    ∷ (rule.ComponentCount, nat_eq (length xs) 0 || nat_lt most_components (length xs))
    ∷ (rule.NullKind, list_any (λ x. is_null_kind x.kind) xs) ∷ []

-- the structure of these components
abbrev pub shaped : List Component → Result Structure Rule
shaped xs = ruled (result_tests xs) (structure_of xs)
