-- The middle of amounts in order, and of the numbers that they stand for.
use Rattle.std.proofs.Common.{◌≡◌, ℕ, suc, ◌+◌, ◌-◌, ◌/◌, ◌%◌, ◌<◌, ◌⊎◌, inl, inr, pos, negsuc, ℤ, List, [], ◌∷◌, Bool, true, false, cond, length, refl, sym, ap, ◌∙◌, true≢false, arith}
use Rattle.std.specs.Prelude.{nat_le, neg_ℤ, ◌+ℤ◌, ◌==◌, IsPermutation}
use Rattle.std.specs.Int.RustNames.{int_le}
use Rattle.std.specs.List.{AllByRecursion}
use Rattle.std.specs.List.Sorted.{IsSorted}
use Rattle.std.specs.Ordering.{int_cmp}
use Rattle.std.proofs.lemmas.Cmp.{int_cmp_total}
use Rattle.vtl_decimal.specs.Range.{fit_number}
use Rattle.vtl_decimal.specs.Rounding.{rounds_up, rounded_size, rounded_quotient}
use Rattle.vtl_decimal.specs.Settings.{Settings}
use Rattle.vtl_decimal.specs.declared.settings.Rounding.{Rounding}
use Rattle.vtl_decimal.proofs.RoundingLemmas.{rounds_up_no_rest}
use Rattle.vtl_cell.specs.Groups.{at, middle_of}
use Rattle.vtl_cell.specs.ScalarArithmetic.{number}
use Rattle.vtl_cell.proofs.Aggregates.{int_order}
use Rattle.vtl_lists.specs.Sorting.{Rises, le_by}
use Rattle.vtl_lists.proofs.Perms.{Perm-from_IsPermutation}
use Rattle.vtl_lists.proofs.Sorts.{Rises-from_IsSorted, sorted_is}
use Rattle.vtl_agg.specs.Added.{median_value}

-- ---- half of a double
half_size : (m : Rounding) (k n : ℕ) → n ≡ k + k → rounded_size m n 2 ≡ k
half_size m k n e =
    let whole : n / 2 ≡ k = omega (arith, e) in
    let none : n % 2 ≡ 0 = omega (arith, e) in
    let stays : rounds_up m (n / 2) (n % 2) 2 ≡ false = rw none (rounds_up_no_rest m (n / 2) 2 (omega arith)) in
    rw stays (omega (arith, whole))

half_of_double : (m : Rounding) (a : ℤ) → rounded_quotient m (a +ℤ a) (pos 2) ≡ a
half_of_double m (pos k) = ap pos (half_size m k (k + k) refl)
half_of_double m (negsuc k) = ap (λ n. neg_ℤ (pos n)) (half_size m (k + 1) (suc (k + k) + 1) (omega arith)) ∙ grind arith

-- ---- the middle by two places, which are one where the count is odd
pub middle_of_two : (p : Settings) (ks : List ℤ) (i j : ℕ) → 0 < length ks → i ≡ (length ks - 1) / 2 → j ≡ length ks / 2 → rounded_quotient p.rounding (at ks i +ℤ at ks j) (pos 2) ≡ middle_of p ks
middle_of_two p ks i j some e h = go (length ks % 2 == 1) refl
  where
    go : (b : Bool) → (length ks % 2 == 1) ≡ b → rounded_quotient p.rounding (at ks i +ℤ at ks j) (pos 2) ≡ cond b (at ks (length ks / 2)) (rounded_quotient p.rounding (at ks (length ks / 2 - 1) +ℤ at ks (length ks / 2)) (pos 2))
    go true odd =
        let parity : length ks % 2 ≡ 1 = grind (arith, odd) in
        let same : i ≡ length ks / 2 = omega (arith, e, parity) in
        rw (same, h) (half_of_double p.rounding (at ks (length ks / 2)))
    go false even =
        let parity : length ks % 2 ≡ 0 = grind (arith, even) in
        let before : i ≡ length ks / 2 - 1 = omega (arith, e, parity, some) in
        rw (before, h) refl

-- ---- in order
nat_one_way : (m n : ℕ) → (nat_le m n ≡ true) ⊎ (nat_le n m ≡ true)
nat_one_way m n = go (nat_le m n) refl
  where
    go : (b : Bool) → nat_le m n ≡ b → (nat_le m n ≡ true) ⊎ (nat_le n m ≡ true)
    go true e = inl e
    go false e = inr (grind arith)

int_one_way : (x y : ℤ) → (int_le x y ≡ true) ⊎ (int_le y x ≡ true)
int_one_way (pos a) (pos b) = nat_one_way a b
int_one_way (pos a) (negsuc b) = inr refl
int_one_way (negsuc a) (pos b) = inl refl
int_one_way (negsuc a) (negsuc b) = nat_one_way b a

rises_by : (x y : ℤ) → le_by int_cmp x y ≡ true → int_le x y ≡ true
rises_by (pos a) (pos b) e = grind (arith, e)
rises_by (pos a) (negsuc b) e = absurd (true≢false (sym e))
rises_by (negsuc a) (pos b) e = refl
rises_by (negsuc a) (negsuc b) e = grind (arith, e)

each_rises : (x : ℤ) (ys : List ℤ) → AllByRecursion (λ y. le_by int_cmp x y ≡ true) ys → AllByRecursion (λ y. int_le x y ≡ true) ys
each_rises x [] all = tt
each_rises x (y ∷ ys) all = (rises_by x y all.0, each_rises x ys all.1)

all_rise : (ys : List ℤ) → Rises (le_by int_cmp) ys → Rises int_le ys
all_rise [] r = tt
all_rise (y ∷ ys) r = (each_rises y ys r.0, all_rise ys r.1)

-- ---- the median by the sorted units
pub median_by_order : (p : Settings) (ks ys : List ℤ) → 0 < length ks → IsPermutation ks ys → IsSorted int_cmp ys → number (fit_number (middle_of p ys)) ≡ median_value p ks
median_by_order p [] ys some same sorted = absurd (omega (arith, some))
median_by_order p (k ∷ ks) ys some same sorted =
    ap (λ ns. number (fit_number (middle_of p ns)))
    (sorted_is int_order (k ∷ ks) ys (Perm-from_IsPermutation (k ∷ ks) ys same) (all_rise ys (Rises-from_IsSorted int_cmp_total ys sorted)))
