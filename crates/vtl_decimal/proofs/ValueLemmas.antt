-- The number of a numeral, from its quotient with a rest.
use Rattle.std.proofs.Common.{ℕ, zero, suc, ℤ, pos, neg_ℤ, ◌≡◌, ◌+◌, ◌-◌, ◌/◌, ◌%◌, ◌^◌, ◌<◌, ◌≤◌, Bool, true, false, cond, List, Option, Some, None, Result, Ok, Err, refl, ap, sym, ◌∙◌, arith, rules}
use Rattle.std.specs.Prelude.{unsigned_abs, nat_lt, option_and_then, IfOk, OnErr}
use Rattle.std.specs.Option.{ok_or}
use Rattle.std.specs.Result.{result_ok}
use Rattle.std.proofs.Math.Nat.{one-le-pow, pow-le-pow_right}
use Rattle.std.proofs.lemmas.Bool.{le-ltb}
use Rattle.vtl_decimal.specs.declared.settings.Rounding.{Rounding}
use Rattle.vtl_decimal.specs.declared.quotient.Divided.{Divided}
use Rattle.vtl_decimal.specs.Divided.{IsDivided}
use Rattle.vtl_decimal.specs.Numeral.{Numeral, SpellsNumeral, signed, numeral_of, number_of, integer_of, numerator, denominator}
use Rattle.vtl_decimal.specs.Range.{fit_number}
use Rattle.vtl_decimal.specs.Rounding.{rounds_up, rounded_size, rounded_quotient}
use Rattle.vtl_decimal.specs.Settings.{Settings}
use Rattle.vtl_decimal.proofs.ReadingLemmas.{spelled_numeral}
use Rattle.vtl_decimal.proofs.SpellingLemmas.{and_then_some, numeral_spelled}
use Rattle.vtl_decimal.proofs.NearLemmas.{nothing_rounded}

pub denominator_some : (n : Numeral) → 0 < denominator n
denominator_some n = one-le-pow _ 10 (omega arith)

one_after : (n : ℕ) → n + 1 ≡ suc n
one_after n = omega arith

-- the sign stands before the rounded size
pub rounded_signed : (m : Rounding) (negative : Bool) (p q : ℕ) → 0 < q → rounded_quotient m (signed negative p) (pos q) ≡ signed negative (rounded_size m p q)
rounded_signed m false p q h = refl
rounded_signed m true zero q h =
    let none = nothing_rounded m q h in
    ap pos none ∙ ap (λ v. neg_ℤ (pos v)) (sym none)
rounded_signed m true (suc p) q h = ap (λ v. neg_ℤ (pos (rounded_size m v q))) (one_after p)

-- the number, from the quotient with its rest
pub number_from : (s : Settings) (n : Numeral) (d : Divided) (up : Bool) → IsDivided (numerator s.scale n) (denominator n) d → up ≡ rounds_up s.rounding (numerator s.scale n / denominator n) (numerator s.scale n % denominator n) (denominator n) → result_ok (fit_number (signed n.negative (d.units + cond up 1 0))) ≡ number_of s n
number_from s n d up is goes =
    let v = numerator s.scale n in
    let q = denominator n in
    let size : d.units + cond up 1 0 ≡ rounded_size s.rounding v q = ap (λ z. z + cond up 1 0) is.units ∙ ap (λ b. v / q + cond b 1 0) goes in
    ap (λ k. result_ok (fit_number k)) (ap (signed n.negative) size ∙ sym (rounded_signed s.rounding n.negative v q (denominator_some n)))

pub signed_size : (negative : Bool) (n : ℕ) → unsigned_abs (signed negative n) ≡ n
signed_size false n = refl
signed_size true zero = refl
signed_size true (suc n) = refl

too_large : (limit v : ℕ) (negative : Bool) → limit ≤ v → nat_lt (unsigned_abs (signed negative v)) limit ≡ false
too_large limit v negative large = ap (λ x. nat_lt x limit) (signed_size negative v) ∙ le-ltb v limit large

-- an integer of more than 18 digits is in no range
pub integer_too_large : (s : ℕ) (n : Numeral) → 10 ^ 18 ≤ numerator 0 n / denominator n → integer_of s n ≡ None
integer_too_large s n large =
    let v = numerator 0 n / denominator n in
    let most = pow-le-pow_right {n = 10} (omega arith) {i = 18 - s} {j = 18} (omega arith) in
    let refused : nat_lt (unsigned_abs (signed n.negative v)) (10 ^ (18 - s)) ≡ false = too_large (10 ^ (18 - s)) v n.negative (omega arith) in
    rw refused (search rules)

-- what a text spells, from what is read
pub spelled_if : {E : Type 0} (f : Numeral → Option ℤ) (t : List ℕ) (r : Result ℤ E) → result_ok r ≡ option_and_then f (numeral_of t) → IfOk r (λ k. (n : Numeral) × SpellsNumeral t n × (f n ≡ Some k))
spelled_if f t (Ok k) h =
    let found = and_then_some f (numeral_of t) k (sym h) in
    (found.0, numeral_spelled t found.0 found.1, found.2)
spelled_if f t (Err e) h = tt

pub refused_if : {E : Type 0} (f : Numeral → Option ℤ) (t : List ℕ) (r : Result ℤ E) → result_ok r ≡ option_and_then f (numeral_of t) → OnErr r ((n : Numeral) → SpellsNumeral t n → f n ≡ None)
refused_if f t (Ok k) h = tt
refused_if f t (Err e) h = λ n spells. sym (ap (option_and_then f) (spelled_numeral t n spells)) ∙ sym h

pub from_option : {E : Type 0} (o : Option ℤ) (e : E) (r : Result ℤ E) → r ≡ ok_or o e → result_ok r ≡ o
from_option (Some k) e r h = ap result_ok h
from_option None e r h = ap result_ok h
