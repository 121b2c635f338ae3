-- Where the rest stands that digits write.
use Rattle.std.proofs.Common.{ℕ, ◌+◌, ◌-◌, ◌*◌, ◌^◌, ◌<◌, ◌≤◌, ◌≡◌, Bool, true, false, List, [], ◌∷◌, ◌++◌, length, drop, get_or, refl, arith, sym, ◌∙◌, inl, inr, pow-suc}
use Rattle.std.specs.Prelude.{IsTrue, nat_lt, ◌==◌, ◌||◌, not}
use Rattle.std.proofs.lemmas.List.Folds.{list_any-append}
use Rattle.std.proofs.Math.Nat.{mul-le-mul_right, one-le-pow}
use Rattle.vtl_decimal.proofs.DigitLemmas.{digit_in, digits_tail, all_ascii_digits-append, value-cons, value-lt}
use Rattle.vtl_decimal.proofs.RoundingLemmas.{zero_or_more}
use Rattle.std.specs.Str.Parse.{digits_value}
use Rattle.vtl_decimal.specs.declared.quotient.Rest.{Rest}
use Rattle.vtl_decimal.specs.declared.quotient.Rest.TheVariants.{Zero, BelowHalf, Half, AboveHalf}
use Rattle.vtl_decimal.specs.Divided.{place_of_rest, has_nonzero}
use Rattle.std.specs.Str.{all_ascii_digits}

pub below_half : (r q : ℕ) → 0 < r → 2 * r < q → place_of_rest r q ≡ BelowHalf
below_half r q some low = grind arith

pub at_half : (r q : ℕ) → 0 < r → 2 * r ≡ q → place_of_rest r q ≡ Half
at_half r q some same = grind arith

pub above_half : (r q : ℕ) → q < 2 * r → place_of_rest r q ≡ AboveHalf
above_half r q high = grind arith

-- a digit d, and t below the power p of ten that it stands before
pub rest_at_zero : (p t : ℕ) → t < p → nat_lt 0 t ≡ false → place_of_rest (0 * p + t) (p * 10) ≡ Zero
rest_at_zero p t small none = grind arith

pub rest_past_zero : (p t : ℕ) → t < p → nat_lt 0 t ≡ true → place_of_rest (0 * p + t) (p * 10) ≡ BelowHalf
rest_past_zero p t small some =
    let more : 0 < t = grind arith in
    below_half (0 * p + t) (p * 10) (omega arith) (omega arith)

pub rest_at_low : (d p t : ℕ) → 1 ≤ d → d ≤ 4 → t < p → place_of_rest (d * p + t) (p * 10) ≡ BelowHalf
rest_at_low d p t from to small =
    let least = mul-le-mul_right p from in
    let most = mul-le-mul_right p to in
    below_half (d * p + t) (p * 10) (omega (arith, least)) (omega (arith, most))

pub rest_at_five : (p t : ℕ) → t < p → nat_lt 0 t ≡ false → place_of_rest (5 * p + t) (p * 10) ≡ Half
rest_at_five p t small none =
    let nothing : t ≡ 0 = grind arith in
    at_half (5 * p + t) (p * 10) (omega arith) (omega arith)

pub rest_past_five : (p t : ℕ) → t < p → nat_lt 0 t ≡ true → place_of_rest (5 * p + t) (p * 10) ≡ AboveHalf
rest_past_five p t small some =
    let more : 0 < t = grind arith in
    above_half (5 * p + t) (p * 10) (omega arith)

pub rest_at_high : (d p t : ℕ) → 6 ≤ d → t < p → place_of_rest (d * p + t) (p * 10) ≡ AboveHalf
rest_at_high d p t from small =
    let least = mul-le-mul_right p from in
    above_half (d * p + t) (p * 10) (omega (arith, least))

pub ruleset rest_by_lead = (rest_at_zero, rest_past_zero, rest_at_low, rest_at_five, rest_past_five, rest_at_high)

-- ---- one of the digits is not `0` exactly where their number is not zero

nonzero_step : (d p v : ℕ) (b : Bool) → 48 ≤ d → d ≤ 57 → 0 < p → b ≡ nat_lt 0 v → (not (d == 48) || b) ≡ nat_lt 0 ((d - 48) * p + v)
nonzero_step d p v b low high some e =
    elim (zero_or_more (d - 48)) [
      | inl zero_digit ↦ grind arith
      | inr a_digit ↦
          let least : 1 * p ≤ (d - 48) * p = mul-le-mul_right {m = 1} {n = d - 48} p (omega arith) in
          let more : 0 < (d - 48) * p + v = omega arith in
          grind arith
    ]

pub has_nonzero-is : (ds : List ℕ) → IsTrue (all_ascii_digits ds) → has_nonzero ds ≡ nat_lt 0 (digits_value 10 ds)
has_nonzero-is [] h = refl
has_nonzero-is (d ∷ ds) h =
    let first = digit_in (d ∷ ds) 0 h (omega arith) in
    rw (value-cons d ds h)
    (nonzero_step d (10 ^ length ds) (digits_value 10 ds) (has_nonzero ds) first.0 first.1 (one-le-pow (length ds) 10 (omega arith)) (has_nonzero-is ds (digits_tail d ds h)))

-- ---- the rest that a digit and those behind it write
rest_of_cons : (lead : ℕ) (ds : List ℕ) (more : Bool) (r : Rest) → IsTrue (all_ascii_digits (lead ∷ ds)) → more ≡ has_nonzero ds → ((n t : ℕ) → t < 10 ^ n → more ≡ nat_lt 0 t → r ≡ place_of_rest ((lead - 48) * 10 ^ n + t) (10 ^ n * 10)) → r ≡ place_of_rest (digits_value 10 (lead ∷ ds)) (10 ^ length (lead ∷ ds))
rest_of_cons lead ds more r h e rule =
    let tail = digits_tail lead ds h in
    rw (value-cons lead ds h, pow-suc)
    (rule (length ds) (digits_value 10 ds) (value-lt ds tail) (e ∙ has_nonzero-is ds tail))

-- the same of a text and of what follows it
pub rest_of_lead : (ds es : List ℕ) (more : Bool) (r : Rest) → IsTrue (all_ascii_digits ds) → IsTrue (all_ascii_digits es) → 0 < length ds → more ≡ (has_nonzero (drop 1 ds) || has_nonzero es) → ((n t : ℕ) → t < 10 ^ n → more ≡ nat_lt 0 t → r ≡ place_of_rest ((get_or ds 0 0 - 48) * 10 ^ n + t) (10 ^ n * 10)) → r ≡ place_of_rest (digits_value 10 (ds ++ es)) (10 ^ length (ds ++ es))
rest_of_lead [] es more r h k some e rule = absurd (omega arith)
rest_of_lead (d ∷ ds) es more r h k some e rule =
    rest_of_cons d (ds ++ es) more r (all_ascii_digits-append (d ∷ ds) es h k) (e ∙ sym (list_any-append (λ b. not (b == 48)) ds es)) rule
