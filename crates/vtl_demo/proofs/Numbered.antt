-- Lists of what is made of each number from one on.
use Rattle.std.proofs.Common.{◌≡◌, ◌≤◌, ◌<◌, ◌+◌, ◌∙◌, ◌∷◌, ◌++◌, [], ℕ, zero, suc, List, Bool, Some, true, false, map, ap, ap₂, sym, arith, inl, inr, refl, eqb-true, ◌==◌}
use Rattle.std.specs.List.{AllByRecursion, find, range_with_len}
use Rattle.std.proofs.lemmas.Bool.{cases_Bool}
use Rattle.std.proofs.lemmas.List.FromFn.{map-range_with_len_more}
use Rattle.std.proofs.lemmas.Bool.Decides.{nat_tests}
use Rattle.vtl_lists.specs.Apart.{all_apart}
use Rattle.vtl_lists.proofs.Aparts.{apart_more}
use Rattle.vtl_tuples.proofs.Lists.{map-map, map_each}

-- what holds of each
pub each_made : {X : Type 0} (P : X → Type 0) (f : ℕ → X) (from n : ℕ) → ((i : ℕ) → from ≤ i → i < from + n → P (f i)) → AllByRecursion P (map f (range_with_len from n))
each_made P f from zero all = tt
each_made P f from (suc n) all = (all from (omega arith) (omega arith), each_made P f (from + 1) n (λ i low high. all i (omega arith) (omega arith)))

-- what a test finds first
pub find_made : {X : Type 0} (f : ℕ → X) (test : X → Bool) (from n i : ℕ) → from ≤ i → i < from + n → test (f i) ≡ true → ((j : ℕ) → j < i → test (f j) ≡ false)
    → find test (map f (range_with_len from n)) ≡ Some (f i)
find_made f test from zero i low high is before = absurd (omega arith)
find_made f test from (suc n) i low high is before = elim (cases_Bool (from == i)) [
  | inl e ↦
      let same : from ≡ i = eqb-true from i e in
      let here : test (f from) ≡ true = ap (λ k. test (f k)) same ∙ is in
      rw here (ap (λ k. Some (f k)) same)
  | inr e ↦
      let below : from < i = grind (arith, nat_tests, e, low) in
      rw (before from below) (find_made f test (from + 1) n i (omega arith) (omega arith) is before)
]

-- no two are the same
pub apart_made : {X : Type 0} (same : X → X → Bool) (f : ℕ → X) (from n : ℕ) → ((i j : ℕ) → i < j → same (f i) (f j) ≡ false) → all_apart same (map f (range_with_len from n)) ≡ true
apart_made same f from zero unlike = refl
apart_made same f from (suc n) unlike =
    apart_more same (f from) (map f (range_with_len (from + 1) n)) (each_made (λ y. same (f from) y ≡ false) f (from + 1) n (λ j low high. unlike from j (omega arith))) (apart_made same f (from + 1) n unlike)

-- what is made of what is made
pub map_made : {X Y Z : Type 0} (f : Y → Z) (g : X → Y) (h : X → Z) → ((x : X) → f (g x) ≡ h x) → (xs : List X) → map f (map g xs) ≡ map h xs
map_made f g h is xs = map-map f g xs ∙ map_each (λ x. f (g x)) h is xs

-- with one more behind
pub one_more : {X : Type 0} (f : ℕ → X) (from n j : ℕ) (xs : List X) (x : X) → from + n ≡ j → xs ≡ map f (range_with_len from n) → x ≡ f j → xs ++ x ∷ [] ≡ map f (range_with_len from (n + 1))
one_more f from n j xs x here before is = ap₂ (λ l y. l ++ y ∷ []) before is ∙ sym (map-range_with_len_more f from n j here)
