-- A quotient by its size and its sign.
use Rattle.std.proofs.Common.{◌≡◌, ℕ, ◌+◌, pos, negsuc, ℤ, true, false, cond, ap, ◌∙◌, arith}
use Rattle.std.specs.Prelude.{unsigned_abs}
use Rattle.std.specs.Int.RustNames.{int_le, int_lt}
use Rattle.std.proofs.lemmas.Int.{ints}
use Rattle.vtl_agg.specs.Added.{with_sign}
use Rattle.vtl_decimal.specs.Rounding.{rounded_quotient, rounded_size}
use Rattle.vtl_decimal.specs.declared.settings.Rounding.{Rounding}
use Rattle.vtl_agg.specs.Quotients.{has_minus}

above : (a : ℕ) → int_lt (pos a) (pos 0) ≡ false
above a = grind (arith, ints)

below : (a : ℕ) → int_lt (negsuc a) (pos 0) ≡ true
below a = grind (arith, ints)

from_above : (a : ℕ) → int_le (pos 0) (pos a) ≡ true
from_above a = grind (arith, ints)

from_below : (a : ℕ) → int_le (pos 0) (negsuc a) ≡ false
from_below a = grind (arith, ints)

below_size : (a : ℕ) → unsigned_abs (negsuc a) ≡ a + 1
below_size a = grind (arith, ints)

pub minus_is : (m : Rounding) (p q : ℤ) → with_sign (has_minus p q) (rounded_size m (unsigned_abs p) (unsigned_abs q)) ≡ rounded_quotient m p q
minus_is m (pos a) (pos b) =
    ap (λ t. with_sign (cond t (int_le (pos 0) (pos b)) (int_lt (pos b) (pos 0))) (rounded_size m a b)) (above a) ∙ ap (λ t. with_sign t (rounded_size m a b)) (above b)
minus_is m (pos a) (negsuc b) =
    let n = unsigned_abs (negsuc b) in
    ap (λ t. with_sign (cond t (int_le (pos 0) (negsuc b)) (int_lt (negsuc b) (pos 0))) (rounded_size m a n)) (above a)
    ∙ ap (λ t. with_sign t (rounded_size m a n)) (below b) ∙ ap (λ k. with_sign true (rounded_size m a k)) (below_size b)
minus_is m (negsuc a) (pos b) =
    let n = unsigned_abs (negsuc a) in
    ap (λ t. with_sign (cond t (int_le (pos 0) (pos b)) (int_lt (pos b) (pos 0))) (rounded_size m n b)) (below a)
    ∙ ap (λ t. with_sign t (rounded_size m n b)) (from_above b) ∙ ap (λ k. with_sign true (rounded_size m k b)) (below_size a)
minus_is m (negsuc a) (negsuc b) =
    let n = unsigned_abs (negsuc a) in
    let k = unsigned_abs (negsuc b) in
    ap (λ t. with_sign (cond t (int_le (pos 0) (negsuc b)) (int_lt (negsuc b) (pos 0))) (rounded_size m n k)) (below a)
    ∙ ap (λ t. with_sign t (rounded_size m n k)) (from_below b) ∙ ap (λ i. with_sign false (rounded_size m i k)) (below_size a)
    ∙ ap (λ i. with_sign false (rounded_size m (a + 1) i)) (below_size b)
