-- The order in which the `=` rules of a hierarchical ruleset are computed, and the items that depend on themselves.
use Rattle.std.specs.Prelude.{◌≡◌, ℕ, zero, suc, Bool, true, not, ◌&&◌, List, [], ◌∷◌, ◌++◌, length, map, filter, nat_eq, Option, Some, None, Result, Ok, Err, Vec}
use Rattle.std.specs.List.{enumerate_from, find, list_all, list_any, slice_get}
use Rattle.std.specs.declared.alloc.Global.{Global}
use Rattle.vtl_lists.specs.Apart.{all_apart}
use Rattle.vtl_lists.specs.Options.{given}
use Rattle.vtl_lists.specs.Results.{◌>>=◌}
use Rattle.vtl_syntax.specs.declared.statements.HierRule.{HierRule}
use Rattle.vtl_tree.specs.Structure.{same_name}
use Rattle.check_faults.specs.Rules.{ruled}
use Rattle.check_faults.specs.declared.rules.Rule.{Rule}
use Rattle.check_faults.specs.declared.rules.Rule.TheVariants as rule
use Rattle.check_rules.specs.RuleItems.{defines}
use Rattle.vtl_tree.specs.RuleItems.{is_equation, left_item, right_items}
use Rattle.check_rules.specs.declared.ordering.OrderErr.{OrderErr}
use Rattle.check_rules.specs.declared.ordering.OrderErr.TheVariants as err

-- a rule with its place among all rules of its ruleset, the first being 0
abbrev pub Placed : Type 0
Placed = ℕ × HierRule

-- a rule that is still to be computed behind those at some places
abbrev pub is_left : (done : List ℕ) → Placed → Bool
is_left done x = not (list_any (nat_eq x.0) done) && is_equation x.1

-- the rules that are still to be computed, in written order
abbrev pub left_behind : List HierRule → (done : List ℕ) → List Placed
left_behind rules done = filter (is_left done) (enumerate_from 0 rules)

-- whether a rule that is left computes the item
abbrev pub is_awaited : (left : List Placed) → List ℕ → Bool
is_awaited left item = list_any (λ x. defines item x.1) left

-- a rule is ready where no rule that is left computes one of its right items
abbrev pub is_ready : (left : List Placed) → Placed → Bool
is_ready left x = list_all (λ item. not (is_awaited left item)) (right_items x.1)

-- the first that is ready
abbrev pub next_behind : List HierRule → (done : List ℕ) → Option Placed
next_behind rules done = find (is_ready (left_behind rules done)) (left_behind rules done)

-- the places of the rules that are done, and behind them of so many others: again and again the next; none where there is none
abbrev pub order_behind : ℕ → List HierRule → (done : List ℕ) → Option (List ℕ)
order_behind zero rules done = Some done
order_behind (suc n) rules done = given (next_behind rules done) (λ x. order_behind n rules (done ++ x.0 ∷ [])) None

-- the order of all `=` rules, where they have one
abbrev pub order_of : List HierRule → Option (List ℕ)
order_of rules = order_behind (length (left_behind rules [])) rules []

-- ---- items that depend on themselves
-- a rule computes the one item of the other
abbrev pub IsMadeOf : List HierRule → (item part : List ℕ) → Type 0
IsMadeOf rules item part = (i : ℕ) × (r : HierRule) × (slice_get rules i ≡ Some r) × (defines item r ≡ true) × (list_any (same_name part) (right_items r) ≡ true)

-- an item depends on those of which it is made, and on those on which they depend
pub data DependsOn (rules : List HierRule) : (item on : List ℕ) → Type 0 where
  directly : (item part : List ℕ) → IsMadeOf rules item part → DependsOn rules item part
  through : (item part on : List ℕ) → IsMadeOf rules item part → DependsOn rules part on → DependsOn rules item on

-- the items of a list that have a property, in order
pub data Picked {X : Type 0} (P : X → Type 0) : List X → List X → Type 0 where
  none : Picked P [] []
  taken : (x : X) {xs ys : List X} → P x → Picked P xs ys → Picked P (x ∷ xs) (x ∷ ys)
  passed : (x : X) {xs ys : List X} → (P x → ⊥) → Picked P xs ys → Picked P (x ∷ xs) ys

-- the items that `=` rules compute, in written order
abbrev pub computed_items : List HierRule → List (List ℕ)
computed_items rules = map left_item (filter is_equation rules)

-- these are the computed items that depend on themselves, in written order
abbrev pub IsCycle : List HierRule → List (List ℕ) → Type 0
IsCycle rules items = Picked (λ item. DependsOn rules item item) (computed_items rules) items

-- what an answer of the program tells: the order, or the items that depend on themselves where there is none; or want of memory
abbrev pub Orders : List HierRule → Result (Vec ℕ Global) OrderErr → Type 0
Orders rules (Ok order) = order_of rules ≡ Some order.items
Orders rules (Err (err.Cycle items)) = (order_of rules ≡ None) × IsCycle rules items
Orders rules (Err err.OutOfMemory) = Unit {0}

-- ---- `hierarchy`
-- no two `=` rules compute one item, and no item depends on itself
abbrev pub placed_or_circular : Option (List ℕ) → Result (List ℕ) Rule
placed_or_circular (Some order) = Ok order
placed_or_circular None = Err rule.CircularHierarchy

abbrev pub hierarchy_order : List HierRule → Result (List ℕ) Rule
hierarchy_order rules = ruled ((rule.CircularHierarchy, not (all_apart same_name (computed_items rules))) ∷ []) (tt {0}) >>= λ u. placed_or_circular (order_of rules)
