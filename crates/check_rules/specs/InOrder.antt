-- What an order of the `=` rules is: it has each of them once, behind those that compute its right items.
use Rattle.std.specs.Prelude.{◌≡◌, ℕ, false, List, [], ◌∷◌, slice_get}
use Rattle.std.specs.List.{AllByRecursion, filter_map}
use Rattle.vtl_lists.specs.Perm.{Perm}
use Rattle.vtl_syntax.specs.declared.statements.HierRule.{HierRule}
use Rattle.vtl_tree.specs.RuleItems.{definitions, right_items}
use Rattle.check_rules.specs.RuleItems.{defines}

-- the rules at places
abbrev pub rules_at : List HierRule → (places : List ℕ) → List HierRule
rules_at rules places = filter_map (slice_get rules) places

-- none of these rules computes the item
abbrev pub IsFree : List HierRule → (item : List ℕ) → Type 0
IsFree rules item = AllByRecursion (λ r. defines item r ≡ false) rules

-- neither a rule nor one behind it computes any of its right items
abbrev pub AreOrdered : List HierRule → Type 0
AreOrdered [] = Unit {0}
AreOrdered (r ∷ rs) = AllByRecursion (IsFree (r ∷ rs)) (right_items r) × AreOrdered rs

-- the places of all `=` rules, in such an order
pub record IsOrder (rules : List HierRule) (order : List ℕ) : Type 0 where
  pub all : Perm (rules_at rules order) (definitions rules)
  pub ordered : AreOrdered (rules_at rules order)
