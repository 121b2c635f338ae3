-- A text as what stands before the first byte that passes a test, and what stands from it on.
use Rattle.std.proofs.Common.{ℕ, suc, ◌≡◌, ◌+◌, Bool, true, false, List, [], ◌∷◌, ◌++◌, ◌⊎◌, inl, inr, refl, ap, sym, ◌∙◌, arith}
use Rattle.std.specs.Prelude.{not}
use Rattle.std.specs.List.{before_first, position_or_len, list_all}
use Rattle.std.proofs.lemmas.Bool.{cases_Bool, and_parts, not-true}
use Rattle.std.proofs.lemmas.List.{take-append-drop}
use Rattle.vtl_decimal.specs.Numeral.{from_first}

one_more : (n : ℕ) → 1 + n ≡ suc n
one_more n = omega arith

pub from_first-yes : (p : ℕ → Bool) (x : ℕ) (xs : List ℕ) → p x ≡ true → from_first p (x ∷ xs) ≡ x ∷ xs
from_first-yes p x xs h = rw h refl

pub from_first-no : (p : ℕ → Bool) (x : ℕ) (xs : List ℕ) → p x ≡ false → from_first p (x ∷ xs) ≡ from_first p xs
from_first-no p x xs h = rw (h, one_more) refl

pub before_first-yes : (p : ℕ → Bool) (x : ℕ) (xs : List ℕ) → p x ≡ true → before_first p (x ∷ xs) ≡ []
before_first-yes p x xs h = rw h refl

pub before_first-no : (p : ℕ → Bool) (x : ℕ) (xs : List ℕ) → p x ≡ false → before_first p (x ∷ xs) ≡ x ∷ before_first p xs
before_first-no p x xs h = rw (h, one_more) refl

-- the two parts are the whole
pub before_and_from : (p : ℕ → Bool) (xs : List ℕ) → xs ≡ before_first p xs ++ from_first p xs
before_and_from p xs = sym (take-append-drop (position_or_len p xs) xs)

-- the second part is empty, or begins with a byte that passes
pub from_first_cases : (p : ℕ → Bool) (xs : List ℕ) → (from_first p xs ≡ []) ⊎ ((y : ℕ) × (ys : List ℕ) × (from_first p xs ≡ y ∷ ys) × (p y ≡ true))
from_first_cases p [] = inl refl
from_first_cases p (x ∷ xs) =
    elim (cases_Bool (p x)) [
      | inl yes_ ↦ inr (x, xs, from_first-yes p x xs yes_, yes_)
      | inr no_ ↦ rw (from_first-no p x xs no_) (from_first_cases p xs)
    ]

-- nothing, or a byte that passes and what stands behind it
pub data IsCut (p : ℕ → Bool) : List ℕ → Type 0 where
  at_end : IsCut p []
  at : (y : ℕ) (ys : List ℕ) → p y ≡ true → IsCut p (y ∷ ys)

pub from_first-append : (p : ℕ → Bool) (xs ys : List ℕ) → list_all (λ b. not (p b)) xs ≡ true → IsCut p ys → from_first p (xs ++ ys) ≡ ys
from_first-append p [] _ none at_end = refl
from_first-append p [] _ none (at y ys passes) = from_first-yes p y ys passes
from_first-append p (x ∷ xs) ys none cut =
    let fails = and_parts (not (p x)) (list_all (λ b. not (p b)) xs) none in
    from_first-no p x (xs ++ ys) (not-true (p x) fails.0) ∙ from_first-append p xs ys fails.1 cut

pub before_first-append : (p : ℕ → Bool) (xs ys : List ℕ) → list_all (λ b. not (p b)) xs ≡ true → IsCut p ys → before_first p (xs ++ ys) ≡ xs
before_first-append p [] _ none at_end = refl
before_first-append p [] _ none (at y ys passes) = before_first-yes p y ys passes
before_first-append p (x ∷ xs) ys none cut =
    let fails = and_parts (not (p x)) (list_all (λ b. not (p b)) xs) none in
    before_first-no p x (xs ++ ys) (not-true (p x) fails.0) ∙ ap (λ l. x ∷ l) (before_first-append p xs ys fails.1 cut)
