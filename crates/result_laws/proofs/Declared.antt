-- Structures as they may be declared, of their parts.
use Rattle.std.proofs.Common.{◌≡◌, ◌≤◌, ℕ, true, false, ◌&&◌, not, List, [], ◌∷◌, length, refl, ap, arith}
use Rattle.std.proofs.lemmas.Bool.{and_from}
use Rattle.std.proofs.lemmas.Bool.Decides.{nat_tests}
use Rattle.std.specs.List.{AllByRecursion, list_all}
use Rattle.std.specs.Prelude.{nat_le}
use Rattle.vtl_lists.specs.Apart.{all_apart}
use Rattle.vtl_text.specs.Words.{is_component_name}
use Rattle.vtl_tree.specs.Structure.{most_components, names_of, same_name}
use Rattle.vtl_tree.specs.Structures.{codes_fit, is_declarable, is_declarable_component, is_null_kind}
use Rattle.vtl_tree.specs.declared.structure.Component.{Component}
use Rattle.vtl_tree.specs.declared.structure.Structure.{Structure}
use Rattle.vtl_meaning.specs.Shapes.{IsShaped}
use Rattle.result_laws.proofs.Components.{ArePlain, IsPlain, column_name}

component_declarable : (x : Component) → IsPlain [] x → is_null_kind x.kind ≡ false → is_declarable_component x ≡ true
component_declarable x h kind = and_from (is_component_name x.name && not (is_null_kind x.kind)) (codes_fit x) (and_from (is_component_name x.name) (not (is_null_kind x.kind)) (column_name x h) (ap not kind)) h.1

components_declarable : (xs : List Component) → ArePlain [] xs → AllByRecursion (λ x. is_null_kind x.kind ≡ false) xs → list_all is_declarable_component xs ≡ true
components_declarable [] h kinds = refl
components_declarable (x ∷ xs) h kinds = and_from (is_declarable_component x) (list_all is_declarable_component xs) (component_declarable x h.0 kinds.0) (components_declarable xs h.1 kinds.1)

at_most : (m n : ℕ) → m ≤ n → nat_le m n ≡ true
at_most m n h = grind (arith, nat_tests)

pub structure_declarable : (s : Structure) → IsShaped s → ArePlain [] s.components → is_declarable s ≡ true
structure_declarable s shaped h =
    let xs = s.components in
    let formed = shaped.well_formed in
    and_from (nat_le 1 (length xs) && nat_le (length xs) most_components && all_apart same_name (names_of xs)) (list_all is_declarable_component xs)
    (and_from (nat_le 1 (length xs) && nat_le (length xs) most_components) (all_apart same_name (names_of xs)) (and_from (nat_le 1 (length xs)) (nat_le (length xs) most_components) (at_most 1 (length xs) formed.some) (at_most (length xs) most_components formed.few)) formed.distinct)
    (components_declarable xs h shaped.kinds)
