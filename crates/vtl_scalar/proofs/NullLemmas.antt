-- A null operand gives null.
use Rattle.std.proofs.Common.{◌≡◌, ℕ, Bool, true, false, ℤ, List, [], ◌∷◌, Option, Some, None, inl, inr, Ok, refl, ap}
use Rattle.std.specs.Prelude.{◌&&◌, ◌||◌}
use Rattle.std.specs.List.{list_any}
use Rattle.std.specs.Ordering.{is_eq, is_ne, is_lt, is_le, is_gt, is_ge}
use Rattle.std.specs.declared.cmp.Ordering.{Ordering}
use Rattle.std.proofs.lemmas.Bool.{or_cases}
use Rattle.vtl_decimal.specs.Settings.{Settings}
use Rattle.vtl_cell.specs.Kinds.{is_null}
use Rattle.vtl_cell.specs.Logic.{xor_of}
use Rattle.vtl_cell.specs.Outcome.{Outcome}
use Rattle.vtl_cell.specs.ScalarArithmetic.{neither, pair_of, at_digits, digits_in}
use Rattle.vtl_cell.specs.ScalarChoice.{truth_in, on_truths}
use Rattle.vtl_cell.specs.ScalarComparison.{order_of, compared, combined, member_of, membership_of, truth}
use Rattle.vtl_cell.specs.ScalarPeriods.{shifted_of}
use Rattle.vtl_cell.specs.ScalarTexts.{joined_of, count_in, part_from, part_within, replaced_of, position_of}
use Rattle.vtl_cell.specs.Scalars.{unary_of, binary_of, ternary_of, by_number_of_operands, scalar_of}
use Rattle.vtl_cell.specs.declared.cell.Cell.{Cell}
use Rattle.vtl_cell.specs.declared.cell.Cell.TheVariants as c
use Rattle.vtl_cell.specs.declared.operator.ScalarOp.{ScalarOp}
use Rattle.vtl_cell.specs.declared.operator.ScalarOp.TheVariants as op
use Rattle.vtl_scalar.specs.LawOperators.{is_strict}

no_number : (f : ℤ → ℤ → Outcome Cell) (d : Option ℤ) → at_digits f d (Ok None) ≡ Ok c.Null
no_number f None = refl
no_number f (Some d) = refl

pair_with_null : (p : Settings) (a : Cell) → pair_of p a c.Null ≡ Ok neither
pair_with_null p (c.Int a) = refl
pair_with_null p (c.Num a) = refl
pair_with_null p a = refl

order_with_null : (p : Settings) (a : Cell) → order_of p a c.Null ≡ None
order_with_null p (c.Bool a) = refl
order_with_null p (c.Int a) = refl
order_with_null p (c.Num a) = refl
order_with_null p (c.Text a) = refl
order_with_null p (c.Day a) = refl
order_with_null p (c.Period a) = refl
order_with_null p c.Null = refl

compared_with_null : (test : Ordering → Bool) (p : Settings) (a : Cell) → truth (compared test p a c.Null) ≡ c.Null
compared_with_null test p a = rw (order_with_null p a) refl

xor_of_null : (b : Option (Option Bool)) → on_truths xor_of (Some None) b ≡ c.Null
xor_of_null None = refl
xor_of_null (Some None) = refl
xor_of_null (Some (Some b)) = refl

xor_with_null : (a : Option (Option Bool)) → on_truths xor_of a (Some None) ≡ c.Null
xor_with_null None = refl
xor_with_null (Some None) = refl
xor_with_null (Some (Some true)) = refl
xor_with_null (Some (Some false)) = refl

joined_with_null : (a : Cell) → joined_of a c.Null ≡ c.Null
joined_with_null (c.Text a) = refl
joined_with_null a = refl

part_from_nothing : (a : Cell) → part_from a None ≡ c.Null
part_from_nothing (c.Text a) = refl
part_from_nothing a = refl

part_within_nothing : (a : Cell) (i : Option ℕ) → part_within a i None ≡ c.Null
part_within_nothing (c.Text a) None = refl
part_within_nothing (c.Text a) (Some i) = refl
part_within_nothing a i = refl

part_from_nowhere : (a : Cell) (l : Option ℕ) → part_within a None l ≡ c.Null
part_from_nowhere (c.Text a) l = refl
part_from_nowhere a l = refl

null_replaced : (a x : Cell) → replaced_of a x c.Null ≡ c.Null
null_replaced (c.Text a) (c.Text x) = refl
null_replaced (c.Text a) x = refl
null_replaced a x = refl

replaced_null : (a x : Cell) → replaced_of a c.Null x ≡ c.Null
replaced_null (c.Text a) x = refl
replaced_null a x = refl

position_of_null : (p : Settings) (a : Cell) → position_of p a c.Null ≡ Ok c.Null
position_of_null p (c.Text a) = refl
position_of_null p a = refl

nothing_combined : (f : Bool → Bool → Bool) (a : Option Bool) → combined f a None ≡ None
nothing_combined f None = refl
nothing_combined f (Some a) = refl

-- ---- the rows, by the place of the null operand

shifted_by_nothing : (a : Cell) → shifted_of a None ≡ Ok c.Null
shifted_by_nothing (c.Period q) = refl
shifted_by_nothing a = refl

unary_null : (p : Settings) (o : ScalarOp) → is_strict o ≡ true → unary_of p o c.Null ≡ Ok c.Null
unary_null p op.IsNull h = cc
unary_null p o h = refl

binary_null_left : (p : Settings) (o : ScalarOp) (b : Cell) → is_strict o ≡ true → binary_of p o c.Null b ≡ Ok c.Null
binary_null_left p op.Round b h = no_number _ (digits_in b)
binary_null_left p op.Truncate b h = no_number _ (digits_in b)
binary_null_left p op.Xor b h = ap Ok (xor_of_null (truth_in b))
binary_null_left p op.And b h = cc
binary_null_left p op.Or b h = cc
binary_null_left p op.ValueOr b h = cc
binary_null_left p o b h = refl

binary_null_right : (p : Settings) (o : ScalarOp) (a : Cell) → is_strict o ≡ true → binary_of p o a c.Null ≡ Ok c.Null
binary_null_right p op.Add a h = rw (pair_with_null p a) refl
binary_null_right p op.Subtract a h = rw (pair_with_null p a) refl
binary_null_right p op.Multiply a h = rw (pair_with_null p a) refl
binary_null_right p op.Divide a h = rw (pair_with_null p a) refl
binary_null_right p op.Modulo a h = rw (pair_with_null p a) refl
binary_null_right p op.Concat a h = ap Ok (joined_with_null a)
binary_null_right p op.Substring a h = ap Ok (part_from_nothing a)
binary_null_right p op.Replace a h = ap Ok (replaced_null a (c.Text []))
binary_null_right p op.Position a h = position_of_null p a
binary_null_right p op.Equal a h = ap Ok (compared_with_null is_eq p a)
binary_null_right p op.NotEqual a h = ap Ok (compared_with_null is_ne p a)
binary_null_right p op.Less a h = ap Ok (compared_with_null is_lt p a)
binary_null_right p op.LessOrEqual a h = ap Ok (compared_with_null is_le p a)
binary_null_right p op.Greater a h = ap Ok (compared_with_null is_gt p a)
binary_null_right p op.GreaterOrEqual a h = ap Ok (compared_with_null is_ge p a)
binary_null_right p op.Xor a h = ap Ok (xor_with_null (truth_in a))
binary_null_right p op.PeriodShift a h = shifted_by_nothing a
binary_null_right p op.And a h = cc
binary_null_right p op.Or a h = cc
binary_null_right p op.ValueOr a h = cc
binary_null_right p o a h = refl

ternary_null_first : (p : Settings) (o : ScalarOp) (x y : Cell) → is_strict o ≡ true → ternary_of p o c.Null x y ≡ Ok c.Null
ternary_null_first p op.If x y h = cc
ternary_null_first p o x y h = refl

ternary_null_second : (p : Settings) (o : ScalarOp) (a y : Cell) → is_strict o ≡ true → ternary_of p o a c.Null y ≡ Ok c.Null
ternary_null_second p op.Substring a y h = ap Ok (part_from_nowhere a (count_in 0 y))
ternary_null_second p op.Replace a y h = ap Ok (replaced_null a y)
ternary_null_second p op.Between a y h = rw (order_with_null p a) refl
ternary_null_second p op.If a y h = cc
ternary_null_second p o a y h = refl

ternary_null_third : (p : Settings) (o : ScalarOp) (a x : Cell) → is_strict o ≡ true → ternary_of p o a x c.Null ≡ Ok c.Null
ternary_null_third p op.Substring a x h = ap Ok (part_within_nothing a (count_in 1 x))
ternary_null_third p op.Replace a x h = ap Ok (null_replaced a x)
ternary_null_third p op.Between a x h = rw (order_with_null p a) (ap (λ t. Ok (truth t)) (nothing_combined (λ s t. s && t) (compared is_ge p a x)))
ternary_null_third p op.If a x h = cc
ternary_null_third p o a x h = refl

-- ---- some operand is null

pub null_is : (a : Cell) → is_null a ≡ true → a ≡ c.Null
null_is c.Null h = refl
null_is (c.Bool x) h = cc
null_is (c.Int x) h = cc
null_is (c.Num x) h = cc
null_is (c.Text x) h = cc
null_is (c.Day x) h = cc
null_is (c.Period x) h = cc

null_member : (p : Settings) (a : Cell) (members : List Cell) → list_any is_null members ≡ true → member_of p a members ≡ None
null_member p a [] h = cc
null_member p a (x ∷ rest) h = elim (or_cases (is_null x) (list_any is_null rest) h) [
  | inl i ↦ rw (null_is x i) (rw (order_with_null p a) refl)
  | inr i ↦ rw (null_member p a rest i) (nothing_combined (λ s t. s || t) (compared is_eq p a x))
]

null_membership : (p : Settings) (args : List Cell) → list_any is_null args ≡ true → membership_of p args ≡ None
null_membership p [] h = refl
null_membership p (a ∷ []) h = refl
null_membership p (a ∷ x ∷ members) h = elim (or_cases (is_null a) (list_any is_null (x ∷ members)) h) [
  | inl i ↦ rw (null_is a i) refl
  | inr i ↦ null_member p a (x ∷ members) i
]

only_operand : (p : Settings) (o : ScalarOp) (a : Cell) → is_strict o ≡ true → list_any is_null (a ∷ []) ≡ true → unary_of p o a ≡ Ok c.Null
only_operand p o a s h = elim (or_cases (is_null a) false h) [ inl i ↦ rw (null_is a i) (unary_null p o s) | inr i ↦ cc ]

either_operand : (p : Settings) (o : ScalarOp) (a b : Cell) → is_strict o ≡ true → list_any is_null (a ∷ b ∷ []) ≡ true → binary_of p o a b ≡ Ok c.Null
either_operand p o a b s h = elim (or_cases (is_null a) (list_any is_null (b ∷ [])) h) [
  | inl i ↦ rw (null_is a i) (binary_null_left p o b s)
  | inr i ↦ elim (or_cases (is_null b) false i) [ inl j ↦ rw (null_is b j) (binary_null_right p o a s) | inr j ↦ cc ]
]

any_operand : (p : Settings) (o : ScalarOp) (a x y : Cell) → is_strict o ≡ true → list_any is_null (a ∷ x ∷ y ∷ []) ≡ true → ternary_of p o a x y ≡ Ok c.Null
any_operand p o a x y s h = elim (or_cases (is_null a) (list_any is_null (x ∷ y ∷ [])) h) [
  | inl i ↦ rw (null_is a i) (ternary_null_first p o x y s)
  | inr i ↦ elim (or_cases (is_null x) (list_any is_null (y ∷ [])) i) [
    | inl j ↦ rw (null_is x j) (ternary_null_second p o a y s)
    | inr j ↦ elim (or_cases (is_null y) false j) [ inl l ↦ rw (null_is y l) (ternary_null_third p o a x s) | inr l ↦ cc ]
  ]
]

by_number_null : (p : Settings) (o : ScalarOp) (args : List Cell) → is_strict o ≡ true → list_any is_null args ≡ true → by_number_of_operands p o args ≡ Ok c.Null
by_number_null p o [] s h = refl
by_number_null p o (a ∷ []) s h = only_operand p o a s h
by_number_null p o (a ∷ b ∷ []) s h = either_operand p o a b s h
by_number_null p o (a ∷ x ∷ y ∷ []) s h = any_operand p o a x y s h
by_number_null p o (a ∷ x ∷ y ∷ z ∷ rest) s h = refl

pub null_gives_null : (p : Settings) (o : ScalarOp) (args : List Cell) → is_strict o ≡ true → list_any is_null args ≡ true → scalar_of p o args ≡ Ok c.Null
null_gives_null p op.In args s h = rw (null_membership p args h) refl
null_gives_null p op.NotIn args s h = rw (null_membership p args h) refl
null_gives_null p o args s h = by_number_null p o args s h
