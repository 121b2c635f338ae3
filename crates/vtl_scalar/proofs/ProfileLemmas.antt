-- The values of the operators are of the profile where the operands are.
use Rattle.std.proofs.Common.{◌-◌, ◌^◌, ◌≡◌, Bool, true, false, ℤ, pos, neg_ℤ, List, [], ◌∷◌, Result, Ok, Err, Option, Some, None, refl}
use Rattle.std.specs.Prelude.{unsigned_abs, nat_lt, IfOk, is_some, if◌then◌else◌, ◌+ℤ◌, ◌-ℤ◌, ◌*ℤ◌, length}
use Rattle.std.specs.List.{AllByRecursion}
use Rattle.vtl_decimal.specs.declared.number.Fault.{Fault as DecimalFault}
use Rattle.vtl_decimal.specs.declared.settings.Rounding.TheVariants.{Down}
use Rattle.vtl_decimal.specs.Operators.{product, quotient, remainder, rounded_at}
use Rattle.vtl_decimal.specs.Range.{fit_number, fit_integer}
use Rattle.vtl_decimal.specs.Rounding.{floor_quotient, ceil_quotient}
use Rattle.vtl_decimal.specs.Settings.{Settings}
use Rattle.vtl_text.specs.Texts.{instr_of}
use Rattle.vtl_cell.specs.Kinds.{kind_of}
use Rattle.vtl_decimal.specs.declared.number.Fault.TheVariants.{Range}
use Rattle.vtl_cell.specs.Outcome.{Outcome, after}
use Rattle.vtl_cell.specs.Profile.{IsOfProfile}
use Rattle.vtl_cell.specs.ScalarArithmetic.{Pair, integers, numbers, neither, pair_of, as_number, number_in, on_number, digits_in, at_digits, integer, number, units, identity_of, negation_of, absolute_of, sum_of, difference_of, product_of, quotient_of, remainder_of, rounded_of, truncated_of}
use Rattle.vtl_cell.specs.ScalarChoice.{beside, value_or, chosen_of}
use Rattle.vtl_cell.specs.ScalarKinds.{meets, shared_kind}
use Rattle.vtl_cell.specs.ScalarTexts.{position_of, length_of}
use Rattle.vtl_cell.specs.Scalars.{unary_of, binary_of, ternary_of, by_number_of_operands, scalar_of}
use Rattle.vtl_cell.specs.declared.cell.Cell.{Cell}
use Rattle.vtl_cell.specs.declared.cell.Cell.TheVariants as c
use Rattle.vtl_cell.specs.declared.kind.Kind.{Kind}
use Rattle.vtl_cell.specs.declared.kind.Kind.TheVariants as k
use Rattle.vtl_cell.specs.declared.operator.ScalarOp.{ScalarOp}
use Rattle.vtl_cell.specs.declared.operator.ScalarOp.TheVariants as op
use Rattle.vtl_scalar.specs.KindLaws.{HasKind, IsOfKind}
use Rattle.vtl_scalar.proofs.ValueKindLemmas.{scalar_is, widest}

-- a value of the profile, where there is one
abbrev pub Gives : Settings → Outcome Cell → Type 0
Gives p m = IfOk m (IsOfProfile p)

-- ---- integers that were made to fit, and numbers
whole_gives : (p : Settings) (n : ℤ) → Gives p (integer (fit_integer p.scale n))
whole_gives p n = go (nat_lt (unsigned_abs n) (10 ^ (18 - p.scale))) refl
  where
    go : (b : Bool) → nat_lt (unsigned_abs n) (10 ^ (18 - p.scale)) ≡ b → Gives p (integer (if b then Ok n else Err Range))
    go true e = rw e refl
    go false e = tt

pub number_gives : (p : Settings) (r : Result ℤ DecimalFault) → Gives p (number r)
number_gives p (Ok x) = tt
number_gives p (Err e) = tt

after_gives : {A : Type 0} (p : Settings) (m : Outcome A) (f : A → Outcome Cell) → ((x : A) → Gives p (f x)) → Gives p (after m f)
after_gives p (Ok x) f h = h x
after_gives p (Err e) f h = tt

on_number_gives : (p : Settings) (f : ℤ → Outcome Cell) (o : Option ℤ) → ((x : ℤ) → Gives p (f x)) → Gives p (on_number f o)
on_number_gives p f None h = tt
on_number_gives p f (Some x) h = h x

at_digits_gives : (p : Settings) (f : ℤ → ℤ → Outcome Cell) (d : Option ℤ) (m : Outcome (Option ℤ)) → ((e x : ℤ) → Gives p (f e x)) → Gives p (at_digits f d m)
at_digits_gives p f None m h = tt
at_digits_gives p f (Some d) m h = after_gives p m (on_number (f d)) (λ o. on_number_gives p (f d) o (h d))

-- ---- the rows
identity_gives : (p : Settings) (a : Cell) → IsOfProfile p a → IsOfProfile p (identity_of a)
identity_gives p (c.Int n) h = h
identity_gives p other h = tt

negation_gives : (p : Settings) (a : Cell) → Gives p (negation_of p a)
negation_gives p (c.Int n) = whole_gives p (neg_ℤ n)
negation_gives p other = tt

absolute_gives : (p : Settings) (a : Cell) → Gives p (absolute_of p a)
absolute_gives p (c.Int n) = whole_gives p (pos (unsigned_abs n))
absolute_gives p other = tt

sum_gives : (p : Settings) (x : Pair) → Gives p (sum_of p x)
sum_gives p (integers a b) = whole_gives p (a +ℤ b)
sum_gives p (numbers a b) = number_gives p (fit_number (a +ℤ b))
sum_gives p neither = tt

difference_gives : (p : Settings) (x : Pair) → Gives p (difference_of p x)
difference_gives p (integers a b) = whole_gives p (a -ℤ b)
difference_gives p (numbers a b) = number_gives p (fit_number (a -ℤ b))
difference_gives p neither = tt

product_gives : (p : Settings) (x : Pair) → Gives p (product_of p x)
product_gives p (integers a b) = whole_gives p (a *ℤ b)
product_gives p (numbers a b) = number_gives p (product p.rounding p.scale a b)
product_gives p neither = tt

quotient_gives : (p : Settings) (x : Pair) → Gives p (quotient_of p x)
quotient_gives p (integers a b) =
    let divided : ℤ → ℤ → Outcome Cell = λ x y. number (quotient p.rounding p.scale x y) in
    after_gives p (as_number p a) (λ x. after (as_number p b) (divided x)) (λ x. after_gives p (as_number p b) (divided x) (λ y. number_gives p (quotient p.rounding p.scale x y)))
quotient_gives p (numbers a b) = number_gives p (quotient p.rounding p.scale a b)
quotient_gives p neither = tt

remainder_gives : (p : Settings) (x : Pair) → Gives p (remainder_of p x)
remainder_gives p (integers a b) = whole_gives p (remainder a b)
remainder_gives p (numbers a b) = tt
remainder_gives p neither = tt

-- the whole number that is made of a number
made_whole_gives : (p : Settings) (f : ℤ → ℤ) (a : Cell) → Gives p (after (number_in p a) (on_number (λ x. integer (fit_integer p.scale (f x)))))
made_whole_gives p f a =
    let g : ℤ → Outcome Cell = λ x. integer (fit_integer p.scale (f x)) in
    after_gives p (number_in p a) (on_number g) (λ o. on_number_gives p g o (λ x. whole_gives p (f x)))

rounded_gives : (p : Settings) (a d : Cell) → Gives p (rounded_of p a d)
rounded_gives p a d =
    let f : ℤ → ℤ → Outcome Cell = λ digits x. number (fit_number (rounded_at p.rounding p.scale digits x)) in
    at_digits_gives p f (digits_in d) (number_in p a) (λ e x. number_gives p (fit_number (rounded_at p.rounding p.scale e x)))

truncated_gives : (p : Settings) (a d : Cell) → Gives p (truncated_of p a d)
truncated_gives p a d = at_digits_gives p (λ digits x. Ok (c.Num (rounded_at Down p.scale digits x))) (digits_in d) (number_in p a) (λ e x. tt)

position_gives : (p : Settings) (a x : Cell) → Gives p (position_of p a x)
position_gives p (c.Text a) (c.Text x) = whole_gives p (pos (instr_of a x))
position_gives p a x = tt

length_gives : (p : Settings) (a : Cell) → Gives p (length_of p a)
length_gives p (c.Text a) = whole_gives p (pos (length a))
length_gives p other = tt

-- ---- choice
either_gives : (b : Bool) (p : Settings) (a : Cell) → IsOfProfile p a → IsOfProfile p (if b then a else c.Null)
either_gives true p a h = h
either_gives false p a h = tt

beside_gives : (p : Settings) (a b : Cell) → IsOfProfile p a → Gives p (beside p a b)
beside_gives p (c.Int n) (c.Num x) h = number_gives p (fit_number (units p n))
beside_gives p a b h = either_gives (is_some (shared_kind (kind_of a) (kind_of b))) p a h

value_or_gives : (p : Settings) (a x : Cell) → IsOfProfile p a → IsOfProfile p x → Gives p (value_or p a x)
value_or_gives p c.Null x h g = g
value_or_gives p a x h g = beside_gives p a x h

chosen_gives : (p : Settings) (test a b : Cell) → IsOfProfile p a → IsOfProfile p b → Gives p (chosen_of p test a b)
chosen_gives p (c.Bool true) a b h g = beside_gives p a b h
chosen_gives p (c.Bool false) a b h g = beside_gives p b a g
chosen_gives p c.Null a b h g = beside_gives p b a g
chosen_gives p other a b h g = tt

-- ---- the table
-- a value that is no integer
not_whole : (kind : Kind) (p : Settings) (v : Cell) → meets kind k.Int ≡ false → IsOfKind kind v → IsOfProfile p v
not_whole kind p (c.Int n) e h = cc
not_whole kind p other e h = tt

by_kind : (kind : Kind) (p : Settings) (m : Outcome Cell) → meets kind k.Int ≡ false → HasKind kind m → Gives p m
by_kind kind p (Ok v) e h = not_whole kind p v e h
by_kind kind p (Err f) e h = tt

module _ (p : Settings) (o : ScalarOp) where
  abbrev One : Type 0
  One = (a : Cell) → IsOfProfile p a → Gives p (unary_of p o a)

  abbrev Two : Type 0
  Two = (a b : Cell) → IsOfProfile p a → IsOfProfile p b → Gives p (binary_of p o a b)

  abbrev Three : Type 0
  Three = (a x y : Cell) → IsOfProfile p x → IsOfProfile p y → Gives p (ternary_of p o a x y)

  by_number_gives : One → Two → Three → (args : List Cell) → AllByRecursion (IsOfProfile p) args → Gives p (by_number_of_operands p o args)
  by_number_gives one two three [] h = tt
  by_number_gives one two three (a ∷ []) h = one a h.0
  by_number_gives one two three (a ∷ b ∷ []) h = two a b h.0 h.1.0
  by_number_gives one two three (a ∷ x ∷ y ∷ []) h = three a x y h.1.0 h.1.1.0
  by_number_gives one two three (a ∷ x ∷ y ∷ z ∷ rest) h = tt

pub value_is_of_profile : (p : Settings) (o : ScalarOp) (args : List Cell) → AllByRecursion (IsOfProfile p) args → Gives p (scalar_of p o args)
value_is_of_profile p op.Identity args h = by_number_gives p op.Identity (λ a i. identity_gives p a i) (λ a b i j. tt) (λ a x y i j. tt) args h
value_is_of_profile p op.Negate args h = by_number_gives p op.Negate (λ a i. negation_gives p a) (λ a b i j. tt) (λ a x y i j. tt) args h
value_is_of_profile p op.Absolute args h = by_number_gives p op.Absolute (λ a i. absolute_gives p a) (λ a b i j. tt) (λ a x y i j. tt) args h
value_is_of_profile p op.Floor args h = by_number_gives p op.Floor (λ a i. made_whole_gives p (λ x. floor_quotient x (10 ^ p.scale)) a) (λ a b i j. tt) (λ a x y i j. tt) args h
value_is_of_profile p op.Ceil args h = by_number_gives p op.Ceil (λ a i. made_whole_gives p (λ x. ceil_quotient x (10 ^ p.scale)) a) (λ a b i j. tt) (λ a x y i j. tt) args h
value_is_of_profile p op.Length args h = by_number_gives p op.Length (λ a i. length_gives p a) (λ a b i j. tt) (λ a x y i j. tt) args h
value_is_of_profile p op.Add args h = by_number_gives p op.Add (λ a i. tt) (λ a b i j. after_gives p (pair_of p a b) (sum_of p) (sum_gives p)) (λ a x y i j. tt) args h
value_is_of_profile p op.Subtract args h = by_number_gives p op.Subtract (λ a i. tt) (λ a b i j. after_gives p (pair_of p a b) (difference_of p) (difference_gives p)) (λ a x y i j. tt) args h
value_is_of_profile p op.Multiply args h = by_number_gives p op.Multiply (λ a i. tt) (λ a b i j. after_gives p (pair_of p a b) (product_of p) (product_gives p)) (λ a x y i j. tt) args h
value_is_of_profile p op.Divide args h = by_number_gives p op.Divide (λ a i. tt) (λ a b i j. after_gives p (pair_of p a b) (quotient_of p) (quotient_gives p)) (λ a x y i j. tt) args h
value_is_of_profile p op.Modulo args h = by_number_gives p op.Modulo (λ a i. tt) (λ a b i j. after_gives p (pair_of p a b) (remainder_of p) (remainder_gives p)) (λ a x y i j. tt) args h
value_is_of_profile p op.Round args h = by_number_gives p op.Round (λ a i. tt) (λ a d i j. rounded_gives p a d) (λ a x y i j. tt) args h
value_is_of_profile p op.Truncate args h = by_number_gives p op.Truncate (λ a i. tt) (λ a d i j. truncated_gives p a d) (λ a x y i j. tt) args h
value_is_of_profile p op.Position args h = by_number_gives p op.Position (λ a i. tt) (λ a x i j. position_gives p a x) (λ a x y i j. tt) args h
value_is_of_profile p op.ValueOr args h = by_number_gives p op.ValueOr (λ a i. tt) (λ a x i j. value_or_gives p a x i j) (λ a x y i j. tt) args h
value_is_of_profile p op.If args h = by_number_gives p op.If (λ a i. tt) (λ a b i j. tt) (λ test a b i j. chosen_gives p test a b i j) args h
value_is_of_profile p other args h = by_kind (widest other) p (scalar_of p other args) refl (scalar_is p other args refl)
