-- The operators where no fault comes first, and what their results are near to.
use Rattle.std.proofs.Common.{ℕ, ℤ, pos, negsuc, ◌*ℤ◌, ◌^◌, ◌<◌, ◌≡◌, Bool, true, false, cond, Result, Ok, Err, refl, sym, subst, arith}
use Rattle.std.specs.Int.{int_div_euclid}
use Rattle.std.specs.Prelude.{unsigned_abs, nat_lt, IfOk}
use Rattle.std.proofs.Math.Nat.{one-le-pow}
use Rattle.vtl_decimal.specs.declared.number.Fault.{Fault}
use Rattle.vtl_decimal.specs.declared.number.Fault.TheVariants.{Range}
use Rattle.vtl_decimal.specs.declared.settings.Rounding.{Rounding}
use Rattle.vtl_decimal.specs.Operators.{product, quotient}
use Rattle.vtl_decimal.specs.Range.{fit_number}
use Rattle.vtl_decimal.specs.Rounding.{rounded_quotient, floor_quotient, IsNear}
use Rattle.vtl_decimal.proofs.NearLemmas.{rounded_near}

-- the quotient by a number that is not zero
pub quotient_by_nonzero : (m : Rounding) (s : ℕ) (a b : ℤ) → 0 < unsigned_abs b → quotient m s a b ≡ fit_number (rounded_quotient m (a *ℤ pos (10 ^ s)) b)
quotient_by_nonzero m s a b h = grind arith

-- the quotient with a rest that is not negative, by a positive number, is the floor
pub div_euclid_is_floor : (a : ℤ) (q : ℕ) → int_div_euclid a (pos q) ≡ floor_quotient a q
div_euclid_is_floor (pos p) q = refl
div_euclid_is_floor (negsuc p) q = refl

-- what a product and a quotient are, where they are in range
pub fits : (P : ℤ → Type 0) (k : ℤ) (b : Bool) → P k → IfOk (cond b (Ok k) (Err Range)) P
fits P k true h = h
fits P k false h = tt

when_fit : (P : ℤ → Type 0) (k : ℤ) → P k → IfOk (fit_number k) P
when_fit P k h = fits P k (nat_lt (unsigned_abs k) (10 ^ 18)) h

pub product_near : (m : Rounding) (s : ℕ) (a b : ℤ) → IfOk (product m s a b) (IsNear m (a *ℤ b) (pos (10 ^ s)))
product_near m s a b = when_fit (IsNear m (a *ℤ b) (pos (10 ^ s))) (rounded_quotient m (a *ℤ b) (pos (10 ^ s))) (rounded_near m (a *ℤ b) (pos (10 ^ s)) (one-le-pow s 10 (omega arith)))

pub quotient_near : (m : Rounding) (s : ℕ) (a b : ℤ) → 0 < unsigned_abs b → IfOk (quotient m s a b) (IsNear m (a *ℤ pos (10 ^ s)) b)
quotient_near m s a b h =
    let P : Result ℤ Fault → Type 0 = λ r. IfOk r (IsNear m (a *ℤ pos (10 ^ s)) b) in
    subst P (sym (quotient_by_nonzero m s a b h)) (when_fit (IsNear m (a *ℤ pos (10 ^ s)) b) (rounded_quotient m (a *ℤ pos (10 ^ s)) b) (rounded_near m (a *ℤ pos (10 ^ s)) b h))
