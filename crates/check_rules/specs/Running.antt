-- What is known while rules are put in their order: how often each item is awaited, who uses it, and which rules are ready.
use Rattle.std.specs.Prelude.{◌≡◌, ◌⊎◌, ℕ, suc, Bool, true, false, not, ◌&&◌, cond, List, [], ◌∷◌, ◌++◌, take, length, get_or, nat_eq, nat_lt, None, Some, unwrap_or}
use Rattle.std.specs.BTreeSet.{BTreeSet, contains}
use Rattle.std.specs.List.{enumerate_from, flat_map, list_all, list_any, slice_get}
use Rattle.std.specs.Map.{lookup}
use Rattle.std.specs.Ordering.{nat_cmp}
use Rattle.vtl_text.specs.Texts.{same_text}
use Rattle.vtl_syntax.specs.declared.statements.HierRule.{HierRule}
use Rattle.check_rules.specs.Order.{Placed, is_awaited, is_left, is_ready, left_behind, next_behind}
use Rattle.check_rules.specs.declared.run.Run.{Run}
use Rattle.check_rules.specs.RuleItems.{defines}
use Rattle.vtl_tree.specs.RuleItems.{is_equation, right_items}

-- how many items pass a test
abbrev pub number : {X : Type 0} → (X → Bool) → List X → ℕ
number test [] = 0
number test (x ∷ xs) = cond (test x) (suc (number test xs)) (number test xs)

-- the count of an item, and its places
abbrev pub count_at : List ℕ → List (List ℕ × ℕ) → ℕ
count_at item counts = unwrap_or (lookup (same_text item) counts) 0

abbrev pub places_at : List ℕ → List (List ℕ × List ℕ) → List ℕ
places_at item places = unwrap_or (lookup (same_text item) places) []

abbrev pub is_free_by : List (List ℕ × ℕ) → List ℕ → Bool
is_free_by awaited item = not (nat_lt 0 (count_at item awaited))

-- how many rules of some places compute an item
abbrev pub times_computed : (done : List ℕ) → List ℕ → List Placed → ℕ
times_computed done item xs = number (λ x. is_left done x && defines item x.1) xs

-- one place for each time that an item is the given one
abbrev pub places_of : ℕ → (item : List ℕ) → List (List ℕ) → List ℕ
places_of place item items = flat_map (λ other. cond (same_text item other) (place ∷ []) []) items

-- the places of `=` rules that have an item on the right
abbrev pub uses_of : (item : List ℕ) → Placed → List ℕ
uses_of item x = cond (is_equation x.1) (places_of x.0 item (right_items x.1)) []

-- the places of `=` rules that compute it
abbrev pub makes_of : (item : List ℕ) → Placed → List ℕ
makes_of item x = cond (defines item x.1) (x.0 ∷ []) []

abbrev pub is_place_in : List ℕ → ℕ → Bool
is_place_in places i = list_any (nat_eq i) places

-- behind the rules that are done, all that are ready are known but for some of those that are pending
pub record IsRunning (rules : List HierRule) (done pending : List ℕ) (awaited : List (List ℕ × ℕ)) (free : List ℕ) (ready : BTreeSet ℕ) : Type 0 where
  -- how often each item is awaited
  pub counted : (item : List ℕ) → count_at item awaited ≡ times_computed done item (enumerate_from 0 rules)
  -- so many right items of each rule, from the left, are not awaited
  pub many : length free ≡ length rules
  pub passed : (i : ℕ) (r : HierRule) → slice_get rules i ≡ Some r → list_all (λ item. not (is_awaited (left_behind rules done) item)) (take (get_or free i 0) (right_items r)) ≡ true
  -- what is known to be ready is ready, and what is ready is known
  pub are_ready : (i : ℕ) → contains nat_cmp ready i ≡ true → (r : HierRule) × (slice_get rules i ≡ Some r) × (is_left done (i, r) ≡ true) × (is_ready (left_behind rules done) (i, r) ≡ true)
  pub all_ready : (i : ℕ) (r : HierRule) → slice_get rules i ≡ Some r → is_left done (i, r) ≡ true → is_ready (left_behind rules done) (i, r) ≡ true → (contains nat_cmp ready i ≡ true) ⊎ (is_place_in pending i ≡ true)
  -- what is pending is left, and what is done awaits nothing
  pub are_left : (i : ℕ) → is_place_in pending i ≡ true → (r : HierRule) × (slice_get rules i ≡ Some r) × (is_left done (i, r) ≡ true)
  pub are_done : (i : ℕ) (r : HierRule) → slice_get rules i ≡ Some r → is_place_in done i ≡ true → is_ready (left_behind rules done) (i, r) ≡ true

abbrev pub Runs : List HierRule → (pending : List ℕ) → Run → Type 0
Runs rules pending run = IsRunning rules run.order.items pending run.awaited run.free.items run.ready

-- the places of the `=` rules that have an item on the right, and of those that compute it
abbrev pub AreUsers : List HierRule → List (List ℕ × List ℕ) → Type 0
AreUsers rules users = (item : List ℕ) → places_at item users ≡ flat_map (uses_of item) (enumerate_from 0 rules)

abbrev pub AreMakers : List HierRule → List (List ℕ × List ℕ) → Type 0
AreMakers rules makers = (item : List ℕ) → places_at item makers ≡ flat_map (makes_of item) (enumerate_from 0 rules)

-- one more rule is done, the next of those that are left; or there is none
abbrev pub IsStep : List HierRule → (done : List ℕ) → Bool → List ℕ → Type 0
IsStep rules done true now = (x : Placed) × (next_behind rules done ≡ Some x) × (now ≡ done ++ x.0 ∷ [])
IsStep rules done false now = next_behind rules done ≡ None

-- a rule is the next, and is no longer among those that are known to be ready
abbrev pub Finishes : List HierRule → (place : ℕ) → Run → Type 0
Finishes rules place run =
    (before : BTreeSet ℕ) × IsRunning rules run.order.items [] run.awaited run.free.items before × (contains nat_cmp before place ≡ true) × (contains nat_cmp run.ready place ≡ false)
    × ((q : ℕ) → (q ≡ place → ⊥) → contains nat_cmp run.ready q ≡ contains nat_cmp before q)
