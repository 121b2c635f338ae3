-- Powers of ten.
use Rattle.std.proofs.Common.{ℕ, ◌+◌, ◌-◌, ◌*◌, ◌^◌, ◌<◌, ◌≤◌, ◌≡◌, ℤ, pos, ◌*ℤ◌, arith}
use Rattle.std.specs.Prelude.{unsigned_abs}
use Rattle.std.proofs.Math.Nat.{pow-le-pow_right, one-le-pow, mul-lt-mul_of_pos_right}
use Rattle.std.proofs.lemmas.Nat.{pow-add}
use Rattle.std.proofs.lemmas.Int.{unsigned_abs-mul}

-- the powers up to the eighteenth are between 1 and 10 ^ 18
pub power_of_ten_fits : (e : ℕ) → e ≤ 18 → (1 ≤ 10 ^ e) × (10 ^ e ≤ 10 ^ 18)
power_of_ten_fits e h = (one-le-pow e 10 (omega arith), pow-le-pow_right {n = 10} (omega arith) {i = e} {j = 18} h)

-- the eighteen digits are those before the point and the s after it
pub digits_split : (s : ℕ) → s ≤ 9 → 10 ^ (18 - s) * 10 ^ s ≡ 10 ^ 18
digits_split s h =
    let e : (18 - s) + s ≡ 18 = omega arith in
    rw (← pow-add 10 (18 - s) s) (rw e)

-- an integer of the scale s has at most eighteen digits in units
pub units_fit : (n : ℤ) (s : ℕ) → s ≤ 9 → unsigned_abs n < 10 ^ (18 - s) → unsigned_abs (n *ℤ pos (10 ^ s)) < 10 ^ 18
units_fit n s h small =
    rw (unsigned_abs-mul n (pos (10 ^ s)))
    (rw (← digits_split s h) (mul-lt-mul_of_pos_right small (power_of_ten_fits s (omega arith)).0))
