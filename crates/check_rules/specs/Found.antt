-- Names that are found one after the other, each once.
use Rattle.std.specs.Prelude.{◌≡◌, ◌<◌, Bool, true, ℕ, List, [], ◌∷◌, ◌++◌, Some, length, slice_get}
use Rattle.std.specs.List.{AllByRecursion, list_any}
use Rattle.vtl_syntax.specs.declared.statements.HierRule.{HierRule}
use Rattle.vtl_tree.specs.Structure.{same_name}
use Rattle.check_rules.specs.Order.{DependsOn, Picked, computed_items}
use Rattle.vtl_tree.specs.RuleItems.{right_items}
use Rattle.check_rules.specs.Running.{is_place_in}

abbrev pub Has : (names : List (List ℕ)) → List ℕ → Type 0
Has names name = list_any (same_name name) names ≡ true

-- the names behind others have a property, and all that have it are there
pub record Finds (P : List ℕ → Type 0) (before now : List (List ℕ)) : Type 0 where
  pub more : List (List ℕ)
  pub behind : now ≡ before ++ more
  pub found : AllByRecursion P more
  pub all_found : (name : List ℕ) → P name → Has now name

abbrev pub IsOnRight : HierRule → List ℕ → Type 0
IsOnRight r name = Has (right_items r) name

-- one of the rules at some places has the name on the right
abbrev pub IsOnRightAt : List HierRule → (places : List ℕ) → List ℕ → Type 0
IsOnRightAt rules places name = (i : ℕ) × (r : HierRule) × (is_place_in places i ≡ true) × (slice_get rules i ≡ Some r) × IsOnRight r name

abbrev pub AreWithin : List HierRule → (places : List ℕ) → Type 0
AreWithin rules places = (i : ℕ) → is_place_in places i ≡ true → i < length rules

-- whether the item depends on itself
abbrev pub TellsDependence : List HierRule → (item : List ℕ) → Bool → Type 0
TellsDependence rules item true = DependsOn rules item item
TellsDependence rules item other = DependsOn rules item item → ⊥

-- the item of a rule goes behind others where the rule computes it and it depends on itself
abbrev pub Adds : List HierRule → HierRule → (before now : List (List ℕ)) → Type 0
Adds rules r before now = (more : List (List ℕ)) × (now ≡ before ++ more) × Picked (λ item. DependsOn rules item item) (computed_items (r ∷ [])) more
