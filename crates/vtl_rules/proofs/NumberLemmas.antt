-- Walks over the numbers below a bound, and over the rules of a ruleset.
use Rattle.std.proofs.Common.{◌≡◌, ℕ, zero, suc, ◌+◌, ◌<◌, Bool, true, false, cond, List, [], ◌∷◌, ◌++◌, length, map, drop, get_or, Option, Some, None, refl, sym, ap, ◌∙◌, arith, append_assoc}
use Rattle.std.specs.Prelude.{IfSome, slice_get}
use Rattle.std.specs.List.{AllByRecursion, cons_option, filter_map, flat_map, range_with_len}
use Rattle.std.specs.Option.{option_to_list}
use Rattle.std.proofs.lemmas.List.{map-append}
use Rattle.std.proofs.lemmas.List.Elements.{filter_map-append}
use Rattle.std.proofs.lemmas.List.FromFn.{get_or-range_with_len, length-range_with_len}
use Rattle.vtl_lists.proofs.Alls.{all_back, all_front}
use Rattle.vtl_lists.proofs.Filters.{range_more}
use Rattle.vtl_decimal.specs.declared.number.Fault.{Fault}
use Rattle.vtl_cell.specs.Outcome.{faults_by, join}
use Rattle.vtl_cell.specs.Row.{Row}
use Rattle.vtl_syntax.specs.declared.statements.HierRule.{HierRule}
use Rattle.vtl_tree.specs.RuleItems.{definitions, is_equation}
use Rattle.vtl_tree.proofs.Faults.{faults_by-append, join_assoc, join_none}
use Rattle.vtl_expr.proofs.PointLemmas.{holds_at}

-- ---- numbers
next_number : (n : ℕ) → range_with_len 0 (n + 1) ≡ range_with_len 0 n ++ n ∷ []
next_number n = let e : 0 + n ≡ n = omega arith in range_more 0 n ∙ ap (λ k. range_with_len 0 n ++ k ∷ []) e

pub mapped_more : {Y : Type 0} (f : ℕ → Y) (n : ℕ) (old new : List Y) (y : Y) → old ≡ map f (range_with_len 0 n) → new ≡ old ++ y ∷ [] → y ≡ f n → new ≡ map f (range_with_len 0 (n + 1))
mapped_more f n old new y o e at =
    e ∙ ap (λ l. l ++ y ∷ []) o ∙ ap (λ z. map f (range_with_len 0 n) ++ z ∷ []) at ∙ sym (ap (map f) (next_number n) ∙ map-append f (range_with_len 0 n) (n ∷ []))

one_drawn : {Y : Type 0} (y : Option Y) → cons_option y [] ≡ option_to_list y
one_drawn None = refl
one_drawn (Some y) = refl

pub drawn_numbers : {Y : Type 0} (h : ℕ → Option Y) (n : ℕ) (front old new : List Y) → old ≡ front ++ filter_map h (range_with_len 0 n) → new ≡ old ++ option_to_list (h n) → new ≡ front ++ filter_map h (range_with_len 0 (n + 1))
drawn_numbers h n front old new o e =
    e ∙ ap (λ l. l ++ option_to_list (h n)) o ∙ append_assoc front (filter_map h (range_with_len 0 n)) (option_to_list (h n))
    ∙ ap (λ l. front ++ l) (sym (ap (filter_map h) (next_number n) ∙ filter_map-append h (range_with_len 0 n) (n ∷ []) ∙ ap (λ l. filter_map h (range_with_len 0 n) ++ l) (one_drawn (h n))))

pub seen_numbers : (f : ℕ → Option Fault) (n : ℕ) (before old new : Option Fault) → old ≡ join before (faults_by f (range_with_len 0 n)) → new ≡ join old (f n) → new ≡ join before (faults_by f (range_with_len 0 (n + 1)))
seen_numbers f n before old new o e =
    e ∙ ap (λ s. join s (f n)) o ∙ join_assoc before (faults_by f (range_with_len 0 n)) (f n)
    ∙ ap (join before) (sym (ap (faults_by f) (next_number n) ∙ faults_by-append f (range_with_len 0 n) (n ∷ []) ∙ ap (join (faults_by f (range_with_len 0 n))) (join_none (f n))))

pub number_holds : (P : ℕ → Type 0) (n i : ℕ) → AllByRecursion P (range_with_len 0 n) → i < n → P i
number_holds P n i all h =
    let count = length-range_with_len 0 n in
    let at = get_or-range_with_len 0 n i i h in
    holds_at P (range_with_len 0 n) i i all (omega (arith, count, h)) (omega (arith, at))

-- what holds of drawn rows
pub drawn_hold : {X : Type 0} (P : Row → Type 0) (g : X → Option Row) (xs : List X) → AllByRecursion P (filter_map g xs) → AllByRecursion (λ x. IfSome (g x) P) xs
drawn_hold P g [] all = tt
drawn_hold P g (x ∷ xs) all = go (g x) all (drawn_hold P g xs)
  where
    go : (o : Option Row) → AllByRecursion P (cons_option o (filter_map g xs)) → (AllByRecursion P (filter_map g xs) → AllByRecursion (λ y. IfSome (g y) P) xs) → IfSome o P × AllByRecursion (λ y. IfSome (g y) P) xs
    go None a ih = (tt, ih a)
    go (Some q) a ih = (a.0, ih a.1)

-- ---- rules
equation_hold : (P : Row → Type 0) (f : HierRule → List Row) (rules : List HierRule) → AllByRecursion P (flat_map f (definitions rules)) → AllByRecursion (λ r. is_equation r ≡ true → AllByRecursion P (f r)) rules
equation_hold P f [] all = tt
equation_hold P f (r ∷ rs) all = go (is_equation r) all (equation_hold P f rs)
  where
    go : (b : Bool) → AllByRecursion P (flat_map f (cond b (r ∷ definitions rs) (definitions rs))) → (AllByRecursion P (flat_map f (definitions rs)) → AllByRecursion (λ q. is_equation q ≡ true → AllByRecursion P (f q)) rs)
        → (b ≡ true → AllByRecursion P (f r)) × AllByRecursion (λ q. is_equation q ≡ true → AllByRecursion P (f q)) rs
    go true a ih = ((λ e. all_front P (f r) (flat_map f (definitions rs)) a), ih (all_back P (f r) (flat_map f (definitions rs)) a))
    go false a ih = ((λ e. cc), ih a)

-- of a rule that defines an item
pub rule_holds_at : (P : Row → Type 0) (f : HierRule → List Row) (rules : List HierRule) (i : ℕ) (r : HierRule) → AllByRecursion P (flat_map f (definitions rules)) → i < length rules → r ≡ get_or rules i r → is_equation r ≡ true → AllByRecursion P (f r)
rule_holds_at P f rules i r all h at e = holds_at (λ q. is_equation q ≡ true → AllByRecursion P (f q)) rules i r (equation_hold P f rules all) h at e

-- the rule at a place, and those at the places behind it
pub places_behind : (rules : List HierRule) (order : List ℕ) (i place : ℕ) → i < length order → place ≡ get_or order i 0 → filter_map (slice_get rules) (drop i order) ≡ cons_option (slice_get rules place) (filter_map (slice_get rules) (drop (i + 1) order))
places_behind rules order i place h at = go order i h at ∙ ap (λ n. cons_option (slice_get rules place) (filter_map (slice_get rules) (drop n order))) more
  where
    more : suc i ≡ i + 1
    more = omega arith

    go : (xs : List ℕ) (k : ℕ) → k < length xs → place ≡ get_or xs k 0 → filter_map (slice_get rules) (drop k xs) ≡ cons_option (slice_get rules place) (filter_map (slice_get rules) (drop (suc k) xs))
    go [] k l e = absurd (omega (arith, l))
    go (x ∷ xs) zero l e = ap (λ n. cons_option (slice_get rules n) (filter_map (slice_get rules) xs)) (sym e)
    go (x ∷ xs) (suc k) l e = go xs k (omega (arith, l)) e
