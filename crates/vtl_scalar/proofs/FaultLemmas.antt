-- The operators that have no fault.
use Rattle.std.proofs.Common.{ℕ, ◌-◌, ◌^◌, ◌<◌, ◌≤◌, ◌≡◌, Bool, true, false, cond, ℤ, pos, neg_ℤ, List, [], ◌∷◌, Ok, Err, Option, Some, None, refl, arith}
use Rattle.std.specs.Prelude.{unsigned_abs, nat_lt, IsOk}
use Rattle.std.specs.List.{AllByRecursion}
use Rattle.std.proofs.lemmas.Bool.{ltb-true}
use Rattle.std.proofs.lemmas.Int.{ints}
use Rattle.vtl_decimal.specs.Settings.{Settings}
use Rattle.vtl_decimal.specs.Range.{fit_number, fit_integer}
use Rattle.vtl_decimal.specs.Operators.{remainder, rounded_at}
use Rattle.vtl_decimal.specs.declared.settings.Rounding.TheVariants.{Down}
use Rattle.vtl_decimal.proofs.PowerLemmas.{units_fit}
use Rattle.vtl_decimal.specs.declared.number.Fault.TheVariants.{Range}
use Rattle.vtl_cell.specs.Outcome.{Outcome, after}
use Rattle.vtl_cell.specs.Profile.{IsOfProfile}
use Rattle.vtl_cell.specs.ScalarArithmetic.{as_number, units, number_in, digits_in, at_digits, negation_of, absolute_of, remainder_of, truncated_of, pair_of}
use Rattle.vtl_cell.specs.ScalarChoice.{beside, value_or, chosen_of}
use Rattle.vtl_cell.specs.Scalars.{unary_of, binary_of, ternary_of, by_number_of_operands, scalar_of}
use Rattle.vtl_cell.specs.declared.cell.Cell.{Cell}
use Rattle.vtl_cell.specs.declared.cell.Cell.TheVariants as c
use Rattle.vtl_cell.specs.declared.operator.ScalarOp.{ScalarOp}
use Rattle.vtl_cell.specs.declared.operator.ScalarOp.TheVariants as op
use Rattle.vtl_scalar.specs.LawOperators.{may_fault}
use Rattle.vtl_scalar.proofs.RemainderLemmas.{remainder_is_small}

integer_fits : (s : ℕ) (n : ℤ) → unsigned_abs n < 10 ^ (18 - s) → fit_integer s n ≡ Ok n
integer_fits s n h = grind arith

-- the size of an integer of the profile
small : (p : Settings) (n : ℤ) → IsOfProfile p (c.Int n) → unsigned_abs n < 10 ^ (18 - p.scale)
small p n h = go (nat_lt (unsigned_abs n) (10 ^ (18 - p.scale))) refl h
  where
    go : (b : Bool) → nat_lt (unsigned_abs n) (10 ^ (18 - p.scale)) ≡ b → IsOk (cond b (Ok n) (Err Range)) → unsigned_abs n < 10 ^ (18 - p.scale)
    go true e h = ltb-true (unsigned_abs n) (10 ^ (18 - p.scale)) e
    go false e h = cc

pub number_fits : (k : ℤ) → unsigned_abs k < 10 ^ 18 → fit_number k ≡ Ok k
number_fits k h = grind arith

pub integer_is_a_number : (p : Settings) (n : ℤ) → p.scale ≤ 9 → IsOfProfile p (c.Int n) → as_number p n ≡ Ok (units p n)
integer_is_a_number p n s h = let e = number_fits (units p n) (units_fit n p.scale s (small p n h)) in rw e refl

-- ---- the rows

negation_is_ok : (p : Settings) (a : Cell) → IsOfProfile p a → IsOk (negation_of p a)
negation_is_ok p (c.Int n) h = rw (integer_fits p.scale (neg_ℤ n) (omega (arith, ints, small p n h))) refl
negation_is_ok p other h = refl

absolute_is_ok : (p : Settings) (a : Cell) → IsOfProfile p a → IsOk (absolute_of p a)
absolute_is_ok p (c.Int n) h = rw (integer_fits p.scale (pos (unsigned_abs n)) (small p n h)) refl
absolute_is_ok p other h = refl

remainder_is_ok : (p : Settings) (a b : Cell) → p.scale ≤ 9 → IsOfProfile p a → IsOfProfile p b → IsOk (after (pair_of p a b) (remainder_of p))
remainder_is_ok p (c.Int a) (c.Int b) s h g = rw (integer_fits p.scale (remainder a b) (remainder_is_small a b (10 ^ (18 - p.scale)) (small p a h) (small p b g))) refl
remainder_is_ok p (c.Int a) (c.Num b) s h g = rw (integer_is_a_number p a s h) refl
remainder_is_ok p (c.Num a) (c.Int b) s h g = rw (integer_is_a_number p b s g) refl
remainder_is_ok p a b s h g = refl

number_is_ok : (p : Settings) (a : Cell) → p.scale ≤ 9 → IsOfProfile p a → IsOk (number_in p a)
number_is_ok p (c.Int n) s h = rw (integer_is_a_number p n s h) refl
number_is_ok p other s h = refl

at_digits_is_ok : (f : ℤ → ℤ → Outcome Cell) (d : Option ℤ) (m : Outcome (Option ℤ)) → ((d k : ℤ) → IsOk (f d k)) → IsOk m → IsOk (at_digits f d m)
at_digits_is_ok f None m ok h = refl
at_digits_is_ok f (Some d) (Ok None) ok h = refl
at_digits_is_ok f (Some d) (Ok (Some k)) ok h = ok d k
at_digits_is_ok f (Some d) (Err e) ok h = cc

truncation_is_ok : (p : Settings) (a d : Cell) → p.scale ≤ 9 → IsOfProfile p a → IsOk (truncated_of p a d)
truncation_is_ok p a d s h = at_digits_is_ok (λ digits k. Ok (c.Num (rounded_at Down p.scale digits k))) (digits_in d) (number_in p a) (λ e k. refl) (number_is_ok p a s h)

beside_is_ok : (p : Settings) (a b : Cell) → p.scale ≤ 9 → IsOfProfile p a → IsOk (beside p a b)
beside_is_ok p (c.Int n) (c.Num k) s h = rw (number_fits (units p n) (units_fit n p.scale s (small p n h))) refl
beside_is_ok p a b s h = refl

value_or_is_ok : (p : Settings) (a x : Cell) → p.scale ≤ 9 → IsOfProfile p a → IsOk (value_or p a x)
value_or_is_ok p c.Null x s h = refl
value_or_is_ok p a x s h = beside_is_ok p a x s h

choice_is_ok : (p : Settings) (test a b : Cell) → p.scale ≤ 9 → IsOfProfile p a → IsOfProfile p b → IsOk (chosen_of p test a b)
choice_is_ok p (c.Bool true) a b s h g = beside_is_ok p a b s h
choice_is_ok p (c.Bool false) a b s h g = beside_is_ok p b a s g
choice_is_ok p c.Null a b s h g = beside_is_ok p b a s g
choice_is_ok p other a b s h g = refl

-- ---- the table

unary_is_ok : (p : Settings) (o : ScalarOp) (a : Cell) → p.scale ≤ 9 → may_fault o ≡ false → IsOfProfile p a → IsOk (unary_of p o a)
unary_is_ok p op.Negate a s f h = negation_is_ok p a h
unary_is_ok p op.Absolute a s f h = absolute_is_ok p a h
unary_is_ok p op.Floor a s f h = cc
unary_is_ok p op.Ceil a s f h = cc
unary_is_ok p op.Length a s f h = cc
unary_is_ok p other a s f h = refl

binary_is_ok : (p : Settings) (o : ScalarOp) (a b : Cell) → p.scale ≤ 9 → may_fault o ≡ false → IsOfProfile p a → IsOfProfile p b → IsOk (binary_of p o a b)
binary_is_ok p op.Add a b s f h g = cc
binary_is_ok p op.Subtract a b s f h g = cc
binary_is_ok p op.Multiply a b s f h g = cc
binary_is_ok p op.Divide a b s f h g = cc
binary_is_ok p op.Round a b s f h g = cc
binary_is_ok p op.Position a b s f h g = cc
binary_is_ok p op.PeriodShift a b s f h g = cc
binary_is_ok p op.Modulo a b s f h g = remainder_is_ok p a b s h g
binary_is_ok p op.Truncate a b s f h g = truncation_is_ok p a b s h
binary_is_ok p op.ValueOr a b s f h g = value_or_is_ok p a b s h
binary_is_ok p other a b s f h g = refl

ternary_is_ok : (p : Settings) (o : ScalarOp) (a x y : Cell) → p.scale ≤ 9 → IsOfProfile p x → IsOfProfile p y → IsOk (ternary_of p o a x y)
ternary_is_ok p op.If a x y s h g = choice_is_ok p a x y s h g
ternary_is_ok p other a x y s h g = refl

by_number_is_ok : (p : Settings) (o : ScalarOp) (args : List Cell) → p.scale ≤ 9 → may_fault o ≡ false → AllByRecursion (IsOfProfile p) args → IsOk (by_number_of_operands p o args)
by_number_is_ok p o [] s f h = refl
by_number_is_ok p o (a ∷ []) s f h = unary_is_ok p o a s f h.0
by_number_is_ok p o (a ∷ b ∷ []) s f h = binary_is_ok p o a b s f h.0 h.1.0
by_number_is_ok p o (a ∷ x ∷ y ∷ []) s f h = ternary_is_ok p o a x y s h.1.0 h.1.1.0
by_number_is_ok p o (a ∷ x ∷ y ∷ z ∷ rest) s f h = refl

pub scalar_is_ok : (p : Settings) (o : ScalarOp) (args : List Cell) → p.scale ≤ 9 → may_fault o ≡ false → AllByRecursion (IsOfProfile p) args → IsOk (scalar_of p o args)
scalar_is_ok p op.In args s f h = refl
scalar_is_ok p op.NotIn args s f h = refl
scalar_is_ok p other args s f h = by_number_is_ok p other args s f h
