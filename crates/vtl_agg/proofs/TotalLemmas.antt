-- The totals of values are those of their units, and whole where all values are integers.
use Rattle.std.proofs.Common.{◌≡◌, ℕ, zero, suc, ◌^◌, pos, ℤ, List, [], ◌∷◌, ◌++◌, Bool, true, false, map, refl, sym, ap, ◌∙◌, arith}
use Rattle.std.specs.Prelude.{◌&&◌, ◌+ℤ◌, ◌*ℤ◌, fold}
use Rattle.std.specs.List.{list_all}
use Rattle.std.proofs.Math.IntN.{*ℤ-zero, zero-*ℤ, *ℤ_comm, suc_ℤ-*ℤ, +ℤ_comm, +ℤ_assoc}
use Rattle.std.proofs.lemmas.Int.{ints}
use Rattle.std.proofs.lemmas.List.{length_push, map-append}
use Rattle.vtl_lists.proofs.Tests.{and_true}
use Rattle.vtl_cell.specs.Groups.{is_integer, numbers_of, units_of, whole_of}
use Rattle.vtl_cell.specs.declared.cell.Cell.{Cell}
use Rattle.vtl_cell.specs.declared.cell.Cell.TheVariants as c
use Rattle.vtl_agg.specs.Added.{rest_of, total_by, totals_of, totals_with}

-- ---- in units
zero-+ℤ : (n : ℤ) → pos 0 +ℤ n ≡ n
zero-+ℤ n = grind (arith, ints)

+ℤ-zero : (n : ℤ) → n +ℤ pos 0 ≡ n
+ℤ-zero n = grind (arith, ints)

units_are : (s : ℕ) (x : Cell) → units_of s x ≡ (whole_of x *ℤ pos (10 ^ s)) +ℤ rest_of x
units_are s (c.Int n) = sym (+ℤ-zero (n *ℤ pos (10 ^ s)))
units_are s (c.Num n) = sym (ap (λ z. z +ℤ n) (zero-*ℤ (pos (10 ^ s))) ∙ zero-+ℤ n)
units_are s other = sym (ap (λ z. z +ℤ pos 0) (zero-*ℤ (pos (10 ^ s))) ∙ zero-+ℤ (pos 0))

times_more : (n : ℤ) (m : ℕ) → n *ℤ pos (suc m) ≡ (n *ℤ pos m) +ℤ n
times_more n m = *ℤ_comm n (pos (suc m)) ∙ suc_ℤ-*ℤ (pos m) n ∙ ap (λ z. z +ℤ n) (*ℤ_comm (pos m) n)

exchanged : (a b c d : ℤ) → (a +ℤ b) +ℤ (c +ℤ d) ≡ (a +ℤ c) +ℤ (b +ℤ d)
exchanged a b c d =
    +ℤ_assoc a b (c +ℤ d)
    ∙ ap (λ z. a +ℤ z) (sym (+ℤ_assoc b c d) ∙ ap (λ z. z +ℤ d) (+ℤ_comm b c) ∙ +ℤ_assoc c b d)
    ∙ sym (+ℤ_assoc a c (b +ℤ d))

distributed : (a n : ℤ) (m : ℕ) → (a *ℤ pos m) +ℤ (n *ℤ pos m) ≡ (a +ℤ n) *ℤ pos m
distributed a n zero = ap (λ z. z +ℤ (n *ℤ pos 0)) (*ℤ-zero a) ∙ ap (λ z. pos 0 +ℤ z) (*ℤ-zero n) ∙ sym (*ℤ-zero (a +ℤ n))
distributed a n (suc m) =
    ap (λ z. z +ℤ (n *ℤ pos (suc m))) (times_more a m)
    ∙ ap (λ z. ((a *ℤ pos m) +ℤ a) +ℤ z) (times_more n m)
    ∙ exchanged (a *ℤ pos m) a (n *ℤ pos m) n
    ∙ ap (λ z. z +ℤ (a +ℤ n)) (distributed a n m)
    ∙ sym (times_more (a +ℤ n) m)

total_from : (s : ℕ) (a b : ℤ) (xs : List Cell) → fold ◌+ℤ◌ ((a *ℤ pos (10 ^ s)) +ℤ b) (numbers_of s xs) ≡ (fold ◌+ℤ◌ a (map whole_of xs) *ℤ pos (10 ^ s)) +ℤ fold ◌+ℤ◌ b (map rest_of xs)
total_from s a b [] = refl
total_from s a b (x ∷ xs) =
    ap (λ z. fold ◌+ℤ◌ z (numbers_of s xs))
    (ap (λ z. ((a *ℤ pos (10 ^ s)) +ℤ b) +ℤ z) (units_are s x)
    ∙ exchanged (a *ℤ pos (10 ^ s)) b (whole_of x *ℤ pos (10 ^ s)) (rest_of x)
    ∙ ap (λ z. z +ℤ (b +ℤ rest_of x)) (distributed a (whole_of x) (10 ^ s)))
    ∙ total_from s (a +ℤ whole_of x) (b +ℤ rest_of x) xs

-- the total of all in units, from the total of the integers and that of the numbers
pub total_in_units : (s : ℕ) (xs : List Cell) → (total_by whole_of xs *ℤ pos (10 ^ s)) +ℤ total_by rest_of xs ≡ fold ◌+ℤ◌ (pos 0) (numbers_of s xs)
total_in_units s xs = sym (ap (λ z. fold ◌+ℤ◌ z (numbers_of s xs)) (sym (ap (λ z. z +ℤ pos 0) (zero-*ℤ (pos (10 ^ s))) ∙ zero-+ℤ (pos 0))) ∙ total_from s (pos 0) (pos 0) xs)

-- ---- one value more
fold_at_end : (a : ℤ) (ns : List ℤ) (n : ℤ) → fold ◌+ℤ◌ a (ns ++ n ∷ []) ≡ fold ◌+ℤ◌ a ns +ℤ n
fold_at_end a [] n = refl
fold_at_end a (m ∷ ns) n = fold_at_end (a +ℤ m) ns n

total_at_end : (f : Cell → ℤ) (xs : List Cell) (x : Cell) → total_by f xs +ℤ f x ≡ total_by f (xs ++ x ∷ [])
total_at_end f xs x = sym (ap (fold ◌+ℤ◌ (pos 0)) (map-append f xs (x ∷ [])) ∙ fold_at_end (pos 0) (map f xs) (f x))

whole_at_end : (xs : List Cell) (x : Cell) → (list_all is_integer xs && is_integer x) ≡ list_all is_integer (xs ++ x ∷ [])
whole_at_end [] x = sym (and_true (is_integer x))
whole_at_end (y ∷ xs) x = go (is_integer y) (whole_at_end xs x)
  where
    go : (b : Bool) → (list_all is_integer xs && is_integer x) ≡ list_all is_integer (xs ++ x ∷ []) → ((b && list_all is_integer xs) && is_integer x) ≡ (b && list_all is_integer (xs ++ x ∷ []))
    go true ih = ih
    go false ih = refl

pub totals_at_end : (xs : List Cell) (x : Cell) → totals_with (totals_of xs) x ≡ totals_of (xs ++ x ∷ [])
totals_at_end xs x = λ n. record {
  count = sym (length_push xs x) n;
  is_whole = whole_at_end xs x n;
  whole = total_at_end whole_of xs x n;
  rest = total_at_end rest_of xs x n;
}
