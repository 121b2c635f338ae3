-- Rules of a hierarchy that are run one after the other, at one combination.
use Rattle.std.specs.Prelude.{◌≡◌, ℕ, false, cond, List, [], ◌∷◌, Option, None, Some}
use Rattle.std.specs.List.{AllByRecursion, find, fold}
use Rattle.vtl_decimal.specs.Settings.{Settings}
use Rattle.vtl_cell.specs.Outcome.{Outcome}
use Rattle.vtl_cell.specs.declared.cell.Cell.{Cell}
use Rattle.vtl_cell.specs.declared.kind.Kind.{Kind}
use Rattle.vtl_syntax.specs.declared.statements.HierRule.{HierRule}
use Rattle.vtl_syntax.specs.declared.word_groups.HierInput.{HierInput}
use Rattle.vtl_syntax.specs.declared.word_groups.Mode.{Mode}
use Rattle.vtl_tree.specs.Structure.{same_name}
use Rattle.vtl_rulings.specs.Hierarchies.{computed, defines, taken}
use Rattle.vtl_rulings.specs.Modes.{Found, Items}
use Rattle.vtl_tree.specs.RuleItems.{left_item, right_items}

-- ---- an order in which rules can be run
-- none of these rules defines the item
abbrev pub IsFree : List HierRule → (item : List ℕ) → Type 0
IsFree rules item = AllByRecursion (λ r. defines item r ≡ false) rules

-- neither a rule nor one behind it defines any of its right items
abbrev pub AreOrdered : List HierRule → Type 0
AreOrdered [] = Unit {0}
AreOrdered (r ∷ rs) = AllByRecursion (IsFree (r ∷ rs)) (right_items r) × AreOrdered rs

-- these are all rules, and no two define one item
pub record AreThese (rules order : List HierRule) : Type 0 where
  pub found : AllByRecursion (λ r. find (defines (left_item r)) rules ≡ Some r) order
  pub only : (item : List ℕ) → IsFree order item → find (defines item) rules ≡ None

-- ---- a run
-- the items with one more
abbrev pub with_item : List ℕ → Found → Items → Items
with_item name x items item = cond (same_name name item) x (items item)

module _ (p : Settings) (m : Mode) (kind : Kind) (i : HierInput) (given : Items) where
  -- the items behind a rule that is run
  abbrev pub step : Items → HierRule → Items
  step items r = with_item (left_item r) (taken i (given (left_item r)) (computed p m kind items r)) items

  -- what each rule computes when it is run
  abbrev pub made_in_run : Items → List HierRule → List (Option (Outcome Cell))
  made_in_run items [] = []
  made_in_run items (r ∷ rs) = computed p m kind items r ∷ made_in_run (step items r) rs

  -- the items behind all
  abbrev pub ran : List HierRule → Items
  ran rules = fold step given rules
