-- The values of the operators are of the kinds that they give.
use Rattle.std.proofs.Common.{ℕ, ◌≡◌, Bool, true, false, ℤ, pos, neg_ℤ, List, [], ◌∷◌, map, Result, Ok, Err, Option, Some, None, inl, inr, refl, subst}
use Rattle.std.specs.Prelude.{unsigned_abs, is_some, ◌&&◌, if◌then◌else◌, ◌^◌, ◌+ℤ◌, ◌-ℤ◌, ◌*ℤ◌, length}
use Rattle.vtl_decimal.specs.declared.number.Fault.{Fault as DecimalFault}
use Rattle.vtl_decimal.specs.declared.settings.Rounding.TheVariants.{Down}
use Rattle.vtl_decimal.specs.Settings.{Settings}
use Rattle.vtl_decimal.specs.Range.{fit_number, fit_integer}
use Rattle.vtl_decimal.specs.Rounding.{floor_quotient, ceil_quotient}
use Rattle.vtl_decimal.specs.Operators.{product, quotient, remainder, rounded_at}
use Rattle.vtl_text.specs.Texts.{instr_of, trim_of, ltrim_of, rtrim_of}
use Rattle.vtl_cell.specs.Kinds.{kind_of}
use Rattle.vtl_cell.specs.Outcome.{Outcome, after}
use Rattle.vtl_cell.specs.ScalarArithmetic.{Pair, integers, numbers, neither, pair_of, as_number, number_in, on_number, at_digits, digits_in, integer, number, units, identity_of, negation_of, absolute_of, sum_of, difference_of, product_of, quotient_of, remainder_of}
use Rattle.vtl_cell.specs.ScalarChoice.{truth_in, on_truth, on_truths, beside, value_or, chosen_of}
use Rattle.vtl_cell.specs.ScalarComparison.{truth, compared, between_of, membership_of}
use Rattle.vtl_cell.specs.Logic.{not_of, and_of, or_of, xor_of}
use Rattle.std.specs.Ordering.{is_eq, is_ne, is_lt, is_le, is_gt, is_ge}
use Rattle.std.proofs.lemmas.Bool.{and_parts}
use Rattle.vtl_cell.specs.ScalarKinds.{meets, meet, to, only, first_met, numeric_one, numeric_two, shared_kind, common_kind, truth_of_alike, kinds_of}
use Rattle.vtl_time.specs.Periods.{YearPart, shift_of}
use Rattle.vtl_cell.specs.ScalarPeriods.{frequency_of, period, places_in, shifted_of}
use Rattle.vtl_cell.specs.ScalarTexts.{count_in, on_text, joined_of, part_from, part_within, replaced_of, position_of, length_of}
use Rattle.vtl_cell.specs.Scalars.{unary_of, binary_of, ternary_of, by_number_of_operands, scalar_of}
use Rattle.vtl_cell.specs.declared.cell.Cell.{Cell}
use Rattle.vtl_cell.specs.declared.cell.Cell.TheVariants as c
use Rattle.vtl_cell.specs.declared.kind.Kind.{Kind}
use Rattle.vtl_cell.specs.declared.kind.Kind.TheVariants as k
use Rattle.vtl_cell.specs.declared.operator.ScalarOp.{ScalarOp}
use Rattle.vtl_cell.specs.declared.operator.ScalarOp.TheVariants as op
use Rattle.vtl_scalar.specs.KindLaws.{IsOfKind, HasKind}
use Rattle.vtl_scalar.proofs.KindLemmas.{meet_through, common_left, common_right, two_give, only_gives, alike_give, set_gives}

-- ---- whole numbers and numbers

pub whole_is : (r : Result ℤ DecimalFault) → HasKind k.Int (integer r)
whole_is (Ok n) = refl
whole_is (Err e) = tt

pub whole_is_number : (r : Result ℤ DecimalFault) → HasKind k.Num (integer r)
whole_is_number (Ok n) = refl
whole_is_number (Err e) = tt

number_is : (kind : Kind) (r : Result ℤ DecimalFault) → meets kind k.Num ≡ true → HasKind kind (number r)
number_is kind (Ok x) h = h
number_is kind (Err e) h = tt

after_is : {A : Type 0} (kind : Kind) (m : Outcome A) (f : A → Outcome Cell) → ((x : A) → HasKind kind (f x)) → HasKind kind (after m f)
after_is kind (Ok x) f h = h x
after_is kind (Err e) f h = tt

on_number_is : (kind : Kind) (f : ℤ → Outcome Cell) (o : Option ℤ) → ((x : ℤ) → HasKind kind (f x)) → HasKind kind (on_number f o)
on_number_is kind f None h = refl
on_number_is kind f (Some x) h = h x

at_digits_is : (f : ℤ → ℤ → Outcome Cell) (d : Option ℤ) (m : Outcome (Option ℤ)) → ((e x : ℤ) → HasKind k.Num (f e x)) → HasKind k.Num (at_digits f d m)
at_digits_is f None m h = refl
at_digits_is f (Some d) m h = after_is k.Num m (on_number (f d)) (λ o. on_number_is k.Num (f d) o (h d))

identity_is : (a : Cell) → IsOfKind k.Num (identity_of a)
identity_is (c.Int n) = refl
identity_is other = refl

negation_is : (p : Settings) (a : Cell) → HasKind k.Num (negation_of p a)
negation_is p (c.Int n) = whole_is_number (fit_integer p.scale (neg_ℤ n))
negation_is p other = refl

absolute_is : (p : Settings) (a : Cell) → HasKind k.Num (absolute_of p a)
absolute_is p (c.Int n) = whole_is_number (fit_integer p.scale (pos (unsigned_abs n)))
absolute_is p other = refl

sum_is : (p : Settings) (x : Pair) → HasKind k.Num (sum_of p x)
sum_is p (integers a b) = whole_is_number (fit_integer p.scale (a +ℤ b))
sum_is p (numbers a b) = number_is k.Num (fit_number (a +ℤ b)) refl
sum_is p neither = refl

difference_is : (p : Settings) (x : Pair) → HasKind k.Num (difference_of p x)
difference_is p (integers a b) = whole_is_number (fit_integer p.scale (a -ℤ b))
difference_is p (numbers a b) = number_is k.Num (fit_number (a -ℤ b)) refl
difference_is p neither = refl

product_is : (p : Settings) (x : Pair) → HasKind k.Num (product_of p x)
product_is p (integers a b) = whole_is_number (fit_integer p.scale (a *ℤ b))
product_is p (numbers a b) = number_is k.Num (product p.rounding p.scale a b) refl
product_is p neither = refl

quotient_is : (p : Settings) (x : Pair) → HasKind k.Num (quotient_of p x)
quotient_is p (integers a b) =
    let divided : ℤ → ℤ → Outcome Cell = λ x y. number (quotient p.rounding p.scale x y) in
    after_is k.Num (as_number p a) (λ x. after (as_number p b) (divided x)) (λ x. after_is k.Num (as_number p b) (divided x) (λ y. number_is k.Num (quotient p.rounding p.scale x y) refl))
quotient_is p (numbers a b) = number_is k.Num (quotient p.rounding p.scale a b) refl
quotient_is p neither = refl

remainder_is : (p : Settings) (x : Pair) → HasKind k.Num (remainder_of p x)
remainder_is p (integers a b) = whole_is_number (fit_integer p.scale (remainder a b))
remainder_is p (numbers a b) = refl
remainder_is p neither = refl

-- of operands that are integers or null an integer
pair_is_whole : (f : Pair → Outcome Cell) (p : Settings) (a b : Cell) → ((x y : ℤ) → HasKind k.Int (f (integers x y))) → HasKind k.Int (f neither) → meets k.Int (kind_of a) ≡ true → meets k.Int (kind_of b) ≡ true → HasKind k.Int (after (pair_of p a b) f)
pair_is_whole f p (c.Int a) (c.Int b) h n i j = h a b
pair_is_whole f p (c.Int a) (c.Num b) h n i j = cc
pair_is_whole f p (c.Num a) (c.Int b) h n i j = cc
pair_is_whole f p (c.Num a) (c.Num b) h n i j = cc
pair_is_whole f p a b h n i j = n

identity_is_whole : (a : Cell) → meets k.Int (kind_of a) ≡ true → IsOfKind k.Int (identity_of a)
identity_is_whole (c.Num x) h = h
identity_is_whole other h = refl

negation_is_whole : (p : Settings) (a : Cell) → meets k.Int (kind_of a) ≡ true → HasKind k.Int (negation_of p a)
negation_is_whole p (c.Int n) h = whole_is (fit_integer p.scale (neg_ℤ n))
negation_is_whole p (c.Num x) h = h
negation_is_whole p other h = refl

absolute_is_whole : (p : Settings) (a : Cell) → meets k.Int (kind_of a) ≡ true → HasKind k.Int (absolute_of p a)
absolute_is_whole p (c.Int n) h = whole_is (fit_integer p.scale (pos (unsigned_abs n)))
absolute_is_whole p (c.Num x) h = h
absolute_is_whole p other h = refl

-- ---- truth and texts

truth_is : (b : Option Bool) → IsOfKind k.Bool (truth b)
truth_is None = refl
truth_is (Some b) = refl

on_truth_is : (f : Option Bool → Option Bool) (a : Option (Option Bool)) → IsOfKind k.Bool (on_truth f a)
on_truth_is f None = refl
on_truth_is f (Some a) = truth_is (f a)

on_truths_is : (f : Option Bool → Option Bool → Option Bool) (a b : Option (Option Bool)) → IsOfKind k.Bool (on_truths f a b)
on_truths_is f None b = refl
on_truths_is f (Some a) None = refl
on_truths_is f (Some a) (Some b) = truth_is (f a b)

on_text_is : (f : List ℕ → List ℕ) (a : Cell) → IsOfKind k.Text (on_text f a)
on_text_is f (c.Text a) = refl
on_text_is f other = refl

joined_is : (a b : Cell) → IsOfKind k.Text (joined_of a b)
joined_is (c.Text a) (c.Text b) = refl
joined_is a b = refl

part_from_is : (a : Cell) (i : Option ℕ) → IsOfKind k.Text (part_from a i)
part_from_is (c.Text a) (Some i) = refl
part_from_is a i = refl

part_within_is : (a : Cell) (i l : Option ℕ) → IsOfKind k.Text (part_within a i l)
part_within_is (c.Text a) (Some i) (Some l) = refl
part_within_is a i l = refl

replaced_is : (a x y : Cell) → IsOfKind k.Text (replaced_of a x y)
replaced_is (c.Text a) (c.Text x) (c.Text y) = refl
replaced_is a x y = refl

position_is : (p : Settings) (a x : Cell) → HasKind k.Int (position_of p a x)
position_is p (c.Text a) (c.Text x) = whole_is (fit_integer p.scale (pos (instr_of a x)))
position_is p a x = refl

length_is : (p : Settings) (a : Cell) → HasKind k.Int (length_of p a)
length_is p (c.Text a) = whole_is (fit_integer p.scale (pos (length a)))
length_is p other = refl

-- ---- periods

period_is : (q : Option YearPart) → HasKind k.Period (period q)
period_is None = tt
period_is (Some q) = refl

shifted_is : (a : Cell) (n : Option ℤ) → HasKind k.Period (shifted_of a n)
shifted_is (c.Period q) (Some n) = period_is (shift_of q n)
shifted_is a n = refl

frequency_is : (a : Cell) → IsOfKind k.Text (frequency_of a)
frequency_is (c.Period q) = refl
frequency_is other = refl

-- ---- choice

either_is : (b : Bool) (kind : Kind) (a : Cell) → IsOfKind kind a → IsOfKind kind (if b then a else c.Null)
either_is true kind a h = h
either_is false kind a h = refl

beside_is : (p : Settings) (kind : Kind) (a b : Cell) → IsOfKind kind a → IsOfKind kind b → HasKind kind (beside p a b)
beside_is p kind (c.Int n) (c.Num x) h g = number_is kind (fit_number (units p n)) g
beside_is p kind a b h g = either_is (is_some (shared_kind (kind_of a) (kind_of b))) kind a h

value_or_is : (p : Settings) (kind : Kind) (a x : Cell) → IsOfKind kind a → IsOfKind kind x → HasKind kind (value_or p a x)
value_or_is p kind c.Null x h g = g
value_or_is p kind a x h g = beside_is p kind a x h g

chosen_is : (p : Settings) (kind : Kind) (test a b : Cell) → IsOfKind kind a → IsOfKind kind b → HasKind kind (chosen_of p test a b)
chosen_is p kind (c.Bool true) a b h g = beside_is p kind a b h g
chosen_is p kind (c.Bool false) a b h g = beside_is p kind b a g h
chosen_is p kind c.Null a b h g = beside_is p kind b a g h
chosen_is p kind other a b h g = refl

-- ---- the kind that all values of an operator have, but of `nvl` and `if`

abbrev pub widest : ScalarOp → Kind
widest op.Identity = k.Num
widest op.Negate = k.Num
widest op.Add = k.Num
widest op.Subtract = k.Num
widest op.Multiply = k.Num
widest op.Divide = k.Num
widest op.Modulo = k.Num
widest op.Absolute = k.Num
widest op.Round = k.Num
widest op.Truncate = k.Num
widest op.Floor = k.Int
widest op.Ceil = k.Int
widest op.Position = k.Int
widest op.Length = k.Int
widest op.Concat = k.Text
widest op.Trim = k.Text
widest op.TrimLeft = k.Text
widest op.TrimRight = k.Text
widest op.Substring = k.Text
widest op.Replace = k.Text
widest op.PeriodFrequency = k.Text
widest op.PeriodShift = k.Period
widest other = k.Bool

unary_is : (p : Settings) (o : ScalarOp) (a : Cell) → HasKind (widest o) (unary_of p o a)
unary_is p op.Identity a = identity_is a
unary_is p op.Negate a = negation_is p a
unary_is p op.Absolute a = absolute_is p a
unary_is p op.Floor a = after_is k.Int (number_in p a) (on_number (λ x. integer (fit_integer p.scale (floor_quotient x (10 ^ p.scale))))) (λ o. on_number_is k.Int (λ x. integer (fit_integer p.scale (floor_quotient x (10 ^ p.scale)))) o (λ x. whole_is (fit_integer p.scale (floor_quotient x (10 ^ p.scale)))))
unary_is p op.Ceil a = after_is k.Int (number_in p a) (on_number (λ x. integer (fit_integer p.scale (ceil_quotient x (10 ^ p.scale))))) (λ o. on_number_is k.Int (λ x. integer (fit_integer p.scale (ceil_quotient x (10 ^ p.scale)))) o (λ x. whole_is (fit_integer p.scale (ceil_quotient x (10 ^ p.scale)))))
unary_is p op.Trim a = on_text_is trim_of a
unary_is p op.TrimLeft a = on_text_is ltrim_of a
unary_is p op.TrimRight a = on_text_is rtrim_of a
unary_is p op.Length a = length_is p a
unary_is p op.Not a = on_truth_is not_of (truth_in a)
unary_is p op.PeriodFrequency a = frequency_is a
unary_is p other a = refl

abbrev pub is_choice : ScalarOp → Bool
is_choice op.ValueOr = true
is_choice op.If = true
is_choice other = false

binary_is : (p : Settings) (o : ScalarOp) (a b : Cell) → is_choice o ≡ false → HasKind (widest o) (binary_of p o a b)
binary_is p op.Add a b h = after_is k.Num (pair_of p a b) (sum_of p) (sum_is p)
binary_is p op.Subtract a b h = after_is k.Num (pair_of p a b) (difference_of p) (difference_is p)
binary_is p op.Multiply a b h = after_is k.Num (pair_of p a b) (product_of p) (product_is p)
binary_is p op.Divide a b h = after_is k.Num (pair_of p a b) (quotient_of p) (quotient_is p)
binary_is p op.Modulo a b h = after_is k.Num (pair_of p a b) (remainder_of p) (remainder_is p)
binary_is p op.Round a d h = at_digits_is (λ e x. number (fit_number (rounded_at p.rounding p.scale e x))) (digits_in d) (number_in p a) (λ e x. number_is k.Num (fit_number (rounded_at p.rounding p.scale e x)) refl)
binary_is p op.Truncate a d h = at_digits_is (λ e x. Ok (c.Num (rounded_at Down p.scale e x))) (digits_in d) (number_in p a) (λ e x. refl)
binary_is p op.Concat a b h = joined_is a b
binary_is p op.Substring a i h = part_from_is a (count_in 1 i)
binary_is p op.Replace a x h = replaced_is a x (c.Text [])
binary_is p op.Position a x h = position_is p a x
binary_is p op.Equal a b h = truth_is (compared is_eq p a b)
binary_is p op.NotEqual a b h = truth_is (compared is_ne p a b)
binary_is p op.Less a b h = truth_is (compared is_lt p a b)
binary_is p op.LessOrEqual a b h = truth_is (compared is_le p a b)
binary_is p op.Greater a b h = truth_is (compared is_gt p a b)
binary_is p op.GreaterOrEqual a b h = truth_is (compared is_ge p a b)
binary_is p op.And a b h = on_truths_is and_of (truth_in a) (truth_in b)
binary_is p op.Or a b h = on_truths_is or_of (truth_in a) (truth_in b)
binary_is p op.Xor a b h = on_truths_is xor_of (truth_in a) (truth_in b)
binary_is p op.ValueOr a b h = cc
binary_is p op.PeriodShift a n h = shifted_is a (places_in n)
binary_is p other a b h = refl

ternary_is : (p : Settings) (o : ScalarOp) (a x y : Cell) → is_choice o ≡ false → HasKind (widest o) (ternary_of p o a x y)
ternary_is p op.Substring a i l h = part_within_is a (count_in 1 i) (count_in 0 l)
ternary_is p op.Replace a x y h = replaced_is a x y
ternary_is p op.Between a x y h = truth_is (between_of p a x y)
ternary_is p op.If a x y h = cc
ternary_is p other a x y h = refl

by_number_is : (p : Settings) (o : ScalarOp) (args : List Cell) → is_choice o ≡ false → HasKind (widest o) (by_number_of_operands p o args)
by_number_is p o [] h = refl
by_number_is p o (a ∷ []) h = unary_is p o a
by_number_is p o (a ∷ b ∷ []) h = binary_is p o a b h
by_number_is p o (a ∷ x ∷ y ∷ []) h = ternary_is p o a x y h
by_number_is p o (a ∷ x ∷ y ∷ z ∷ rest) h = refl

pub scalar_is : (p : Settings) (o : ScalarOp) (args : List Cell) → is_choice o ≡ false → HasKind (widest o) (scalar_of p o args)
scalar_is p op.In args h = truth_is (membership_of p args)
scalar_is p op.NotIn args h = truth_is (not_of (membership_of p args))
scalar_is p other args h = by_number_is p other args h

-- ---- operands by their number

none_left : (a : Bool) → (a && false) ≡ true → false ≡ true
none_left a h = (and_parts a false h).1

one_of : (w : Kind) (Q : List Cell → Type 0) → ((a : Cell) → IsOfKind w a → Q (a ∷ [])) → (args : List Cell) → meet (w ∷ []) (map kind_of args) ≡ true → Q args
one_of w Q q [] h = cc
one_of w Q q (a ∷ []) h = q a (and_parts (meets w (kind_of a)) true h).0
one_of w Q q (a ∷ b ∷ rest) h = let e = none_left (meets w (kind_of a)) h in cc

two_of : (w v : Kind) (Q : List Cell → Type 0) → ((a b : Cell) → IsOfKind w a → IsOfKind v b → Q (a ∷ b ∷ [])) → (args : List Cell) → meet (w ∷ v ∷ []) (map kind_of args) ≡ true → Q args
two_of w v Q q [] h = cc
two_of w v Q q (a ∷ rest) h =
    let h' = and_parts (meets w (kind_of a)) (meet (v ∷ []) (map kind_of rest)) h in
    one_of v (λ xs. Q (a ∷ xs)) (λ b i. q a b h'.0 i) rest h'.1

three_of : (u w v : Kind) (Q : List Cell → Type 0) → ((t a b : Cell) → IsOfKind w a → IsOfKind v b → Q (t ∷ a ∷ b ∷ [])) → (args : List Cell) → meet (u ∷ w ∷ v ∷ []) (map kind_of args) ≡ true → Q args
three_of u w v Q q [] h = cc
three_of u w v Q q (t ∷ rest) h =
    let h' = and_parts (meets u (kind_of t)) (meet (w ∷ v ∷ []) (map kind_of rest)) h in
    two_of w v (λ xs. Q (t ∷ xs)) (λ a b i j. q t a b i j) rest h'.1

-- ---- of integers an integer

unary_is_whole : (p : Settings) (o : ScalarOp) (args : List Cell) → ((a : Cell) → IsOfKind k.Int a → HasKind k.Int (scalar_of p o (a ∷ []))) → meet (k.Int ∷ []) (map kind_of args) ≡ true → HasKind k.Int (scalar_of p o args)
unary_is_whole p o args q h = one_of k.Int (λ xs. HasKind k.Int (scalar_of p o xs)) q args h

binary_is_whole : (p : Settings) (o : ScalarOp) (args : List Cell) → ((a b : Cell) → IsOfKind k.Int a → IsOfKind k.Int b → HasKind k.Int (scalar_of p o (a ∷ b ∷ []))) → meet (k.Int ∷ k.Int ∷ []) (map kind_of args) ≡ true → HasKind k.Int (scalar_of p o args)
binary_is_whole p o args q h = two_of k.Int k.Int (λ xs. HasKind k.Int (scalar_of p o xs)) q args h

-- ---- the kind that an operator gives of the operands' kinds

to_kind : (g kind : Kind) (m : Outcome Cell) → g ≡ kind → HasKind g m → HasKind kind m
to_kind g kind m e h = let P : Kind → Type 0 = λ x. HasKind x m in subst P e h

one_kind : (ws vs kinds : List Kind) (g kind : Kind) (m : Outcome Cell) → first_met (to ws g ∷ to vs g ∷ []) kinds ≡ Some kind → HasKind g m → HasKind kind m
one_kind ws vs kinds g kind m e h =
    elim (two_give ws vs kinds g g kind e) [ inl i ↦ to_kind g kind m i.1 h | inr i ↦ to_kind g kind m i h ]

numeric : (ws vs kinds : List Kind) (args : List Cell) (kind : Kind) (m : Outcome Cell) → first_met (to ws k.Int ∷ to vs k.Num ∷ []) kinds ≡ Some kind → meet kinds (map kind_of args) ≡ true → (meet ws (map kind_of args) ≡ true → HasKind k.Int m) → HasKind k.Num m → HasKind kind m
numeric ws vs kinds args kind m e met whole any =
    elim (two_give ws vs kinds k.Int k.Num kind e) [ inl i ↦ to_kind k.Int kind m i.1 (whole (meet_through ws kinds (map kind_of args) i.0 met)) | inr i ↦ to_kind k.Num kind m i any ]

module _ (p : Settings) (kinds : List Kind) (args : List Cell) (kind : Kind) (met : meet kinds (map kind_of args) ≡ true) where
  numeric_one_is : (o : ScalarOp) → first_met numeric_one kinds ≡ Some kind → ((a : Cell) → IsOfKind k.Int a → HasKind k.Int (scalar_of p o (a ∷ []))) → HasKind k.Num (scalar_of p o args) → HasKind kind (scalar_of p o args)
  numeric_one_is o e whole any = numeric (k.Int ∷ []) (k.Num ∷ []) kinds args kind (scalar_of p o args) e met (unary_is_whole p o args whole) any

  numeric_two_is : (o : ScalarOp) → first_met numeric_two kinds ≡ Some kind → ((a b : Cell) → IsOfKind k.Int a → IsOfKind k.Int b → HasKind k.Int (scalar_of p o (a ∷ b ∷ []))) → HasKind k.Num (scalar_of p o args) → HasKind kind (scalar_of p o args)
  numeric_two_is o e whole any = numeric (k.Int ∷ k.Int ∷ []) (k.Num ∷ k.Num ∷ []) kinds args kind (scalar_of p o args) e met (binary_is_whole p o args whole) any

  only_is : (o : ScalarOp) (ws : List Kind) (g : Kind) → first_met (only ws g) kinds ≡ Some kind → HasKind g (scalar_of p o args) → HasKind kind (scalar_of p o args)
  only_is o ws g e h = to_kind g kind (scalar_of p o args) (only_gives ws kinds g kind e) h

alike_is : (p : Settings) (o : ScalarOp) (kinds : List Kind) (args : List Cell) (kind : Kind) → truth_of_alike kinds ≡ Some kind → HasKind k.Bool (scalar_of p o args) → HasKind kind (scalar_of p o args)
alike_is p o kinds args kind e h = to_kind k.Bool kind (scalar_of p o args) (alike_give kinds kind e) h

value_or_gives : (p : Settings) (a x kind : Kind) (args : List Cell) → common_kind (a ∷ x ∷ []) ≡ Some kind → meet (a ∷ x ∷ []) (map kind_of args) ≡ true → HasKind kind (scalar_of p op.ValueOr args)
value_or_gives p a x kind args e met =
    two_of a x (λ xs. HasKind kind (scalar_of p op.ValueOr xs)) (λ v w i j. value_or_is p kind v w (common_left a x (kind_of v) kind e i) (common_right a x (kind_of w) kind e j)) args met

choice_gives : (p : Settings) (t a x kind : Kind) (args : List Cell) → common_kind (a ∷ x ∷ []) ≡ Some kind → meet (t ∷ a ∷ x ∷ []) (map kind_of args) ≡ true → HasKind kind (scalar_of p op.If args)
choice_gives p t a x kind args e met =
    three_of t a x (λ xs. HasKind kind (scalar_of p op.If xs)) (λ test v w i j. chosen_is p kind test v w (common_left a x (kind_of v) kind e i) (common_right a x (kind_of w) kind e j)) args met

pub when : (b : Bool) (o : Option Kind) (kind : Kind) → (if b then o else None) ≡ Some kind → o ≡ Some kind
when true o kind e = e
when false o kind e = cc

pub value_is_of_kind : (p : Settings) (o : ScalarOp) (kinds : List Kind) (args : List Cell) (kind : Kind) → kinds_of o kinds ≡ Some kind → meet kinds (map kind_of args) ≡ true → HasKind kind (scalar_of p o args)
value_is_of_kind p op.Identity kinds args kind e met = numeric_one_is p kinds args kind met op.Identity e identity_is_whole (scalar_is p op.Identity args refl)
value_is_of_kind p op.Negate kinds args kind e met = numeric_one_is p kinds args kind met op.Negate e (negation_is_whole p) (scalar_is p op.Negate args refl)
value_is_of_kind p op.Absolute kinds args kind e met = numeric_one_is p kinds args kind met op.Absolute e (absolute_is_whole p) (scalar_is p op.Absolute args refl)
value_is_of_kind p op.Add kinds args kind e met = numeric_two_is p kinds args kind met op.Add e (λ a b. pair_is_whole (sum_of p) p a b (λ x y. whole_is (fit_integer p.scale (x +ℤ y))) refl) (scalar_is p op.Add args refl)
value_is_of_kind p op.Subtract kinds args kind e met = numeric_two_is p kinds args kind met op.Subtract e (λ a b. pair_is_whole (difference_of p) p a b (λ x y. whole_is (fit_integer p.scale (x -ℤ y))) refl) (scalar_is p op.Subtract args refl)
value_is_of_kind p op.Multiply kinds args kind e met = numeric_two_is p kinds args kind met op.Multiply e (λ a b. pair_is_whole (product_of p) p a b (λ x y. whole_is (fit_integer p.scale (x *ℤ y))) refl) (scalar_is p op.Multiply args refl)
value_is_of_kind p op.Modulo kinds args kind e met = numeric_two_is p kinds args kind met op.Modulo e (λ a b. pair_is_whole (remainder_of p) p a b (λ x y. whole_is (fit_integer p.scale (remainder x y))) refl) (scalar_is p op.Modulo args refl)
value_is_of_kind p op.Divide kinds args kind e met = only_is p kinds args kind met op.Divide (k.Num ∷ k.Num ∷ []) k.Num e (scalar_is p op.Divide args refl)
value_is_of_kind p op.Floor kinds args kind e met = only_is p kinds args kind met op.Floor (k.Num ∷ []) k.Int e (scalar_is p op.Floor args refl)
value_is_of_kind p op.Ceil kinds args kind e met = only_is p kinds args kind met op.Ceil (k.Num ∷ []) k.Int e (scalar_is p op.Ceil args refl)
value_is_of_kind p op.Round kinds args kind e met = only_is p kinds args kind met op.Round (k.Num ∷ k.Int ∷ []) k.Num e (scalar_is p op.Round args refl)
value_is_of_kind p op.Truncate kinds args kind e met = only_is p kinds args kind met op.Truncate (k.Num ∷ k.Int ∷ []) k.Num e (scalar_is p op.Truncate args refl)
value_is_of_kind p op.Concat kinds args kind e met = only_is p kinds args kind met op.Concat (k.Text ∷ k.Text ∷ []) k.Text e (scalar_is p op.Concat args refl)
value_is_of_kind p op.Trim kinds args kind e met = only_is p kinds args kind met op.Trim (k.Text ∷ []) k.Text e (scalar_is p op.Trim args refl)
value_is_of_kind p op.TrimLeft kinds args kind e met = only_is p kinds args kind met op.TrimLeft (k.Text ∷ []) k.Text e (scalar_is p op.TrimLeft args refl)
value_is_of_kind p op.TrimRight kinds args kind e met = only_is p kinds args kind met op.TrimRight (k.Text ∷ []) k.Text e (scalar_is p op.TrimRight args refl)
value_is_of_kind p op.Substring kinds args kind e met = one_kind (k.Text ∷ k.Int ∷ []) (k.Text ∷ k.Int ∷ k.Int ∷ []) kinds k.Text kind (scalar_of p op.Substring args) e (scalar_is p op.Substring args refl)
value_is_of_kind p op.Replace kinds args kind e met = one_kind (k.Text ∷ k.Text ∷ []) (k.Text ∷ k.Text ∷ k.Text ∷ []) kinds k.Text kind (scalar_of p op.Replace args) e (scalar_is p op.Replace args refl)
value_is_of_kind p op.Position kinds args kind e met = only_is p kinds args kind met op.Position (k.Text ∷ k.Text ∷ []) k.Int e (scalar_is p op.Position args refl)
value_is_of_kind p op.Length kinds args kind e met = only_is p kinds args kind met op.Length (k.Text ∷ []) k.Int e (scalar_is p op.Length args refl)
value_is_of_kind p op.Equal (a ∷ b ∷ []) args kind e met = alike_is p op.Equal (a ∷ b ∷ []) args kind e (scalar_is p op.Equal args refl)
value_is_of_kind p op.NotEqual (a ∷ b ∷ []) args kind e met = alike_is p op.NotEqual (a ∷ b ∷ []) args kind e (scalar_is p op.NotEqual args refl)
value_is_of_kind p op.Less (a ∷ b ∷ []) args kind e met = alike_is p op.Less (a ∷ b ∷ []) args kind e (scalar_is p op.Less args refl)
value_is_of_kind p op.LessOrEqual (a ∷ b ∷ []) args kind e met = alike_is p op.LessOrEqual (a ∷ b ∷ []) args kind e (scalar_is p op.LessOrEqual args refl)
value_is_of_kind p op.Greater (a ∷ b ∷ []) args kind e met = alike_is p op.Greater (a ∷ b ∷ []) args kind e (scalar_is p op.Greater args refl)
value_is_of_kind p op.GreaterOrEqual (a ∷ b ∷ []) args kind e met = alike_is p op.GreaterOrEqual (a ∷ b ∷ []) args kind e (scalar_is p op.GreaterOrEqual args refl)
value_is_of_kind p op.Between (a ∷ x ∷ y ∷ []) args kind e met = alike_is p op.Between (a ∷ x ∷ y ∷ []) args kind e (scalar_is p op.Between args refl)
value_is_of_kind p op.In (a ∷ x ∷ members) args kind e met = to_kind k.Bool kind (scalar_of p op.In args) (set_gives a (x ∷ members) kind e) (scalar_is p op.In args refl)
value_is_of_kind p op.NotIn (a ∷ x ∷ members) args kind e met = to_kind k.Bool kind (scalar_of p op.NotIn args) (set_gives a (x ∷ members) kind e) (scalar_is p op.NotIn args refl)
value_is_of_kind p op.And kinds args kind e met = only_is p kinds args kind met op.And (k.Bool ∷ k.Bool ∷ []) k.Bool e (scalar_is p op.And args refl)
value_is_of_kind p op.Or kinds args kind e met = only_is p kinds args kind met op.Or (k.Bool ∷ k.Bool ∷ []) k.Bool e (scalar_is p op.Or args refl)
value_is_of_kind p op.Xor kinds args kind e met = only_is p kinds args kind met op.Xor (k.Bool ∷ k.Bool ∷ []) k.Bool e (scalar_is p op.Xor args refl)
value_is_of_kind p op.Not kinds args kind e met = only_is p kinds args kind met op.Not (k.Bool ∷ []) k.Bool e (scalar_is p op.Not args refl)
value_is_of_kind p op.PeriodShift kinds args kind e met = only_is p kinds args kind met op.PeriodShift (k.Period ∷ k.Int ∷ []) k.Period e (scalar_is p op.PeriodShift args refl)
value_is_of_kind p op.PeriodFrequency kinds args kind e met = only_is p kinds args kind met op.PeriodFrequency (k.Period ∷ []) k.Text e (scalar_is p op.PeriodFrequency args refl)
value_is_of_kind p op.IsNull (a ∷ []) args kind e met =
    let same : k.Bool ≡ kind = cc in
    to_kind k.Bool kind (scalar_of p op.IsNull args) same (scalar_is p op.IsNull args refl)
value_is_of_kind p op.ValueOr (a ∷ x ∷ []) args kind e met = value_or_gives p a x kind args e met
value_is_of_kind p op.If (t ∷ a ∷ x ∷ []) args kind e met = choice_gives p t a x kind args (when (meets k.Bool t) (common_kind (a ∷ x ∷ [])) kind e) met
value_is_of_kind p o kinds args kind e met = cc
