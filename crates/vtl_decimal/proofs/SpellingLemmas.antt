-- What is read is what the text spells.
use Rattle.std.proofs.Common.{ℕ, ℤ, pos, ◌≡◌, ◌+◌, Bool, true, false, List, [], ◌∷◌, ◌++◌, inl, inr, drop, length, Option, Some, None, refl, ap, sym, subst, ◌∙◌, append_assoc}
use Rattle.std.specs.Prelude.{option_and_then, nat_lt, nat_le, ◌&&◌, ◌==◌}
use Rattle.std.specs.List.{before_first}
use Rattle.std.specs.Str.Parse.{digits_value, starts_with_minus, without_leading_sign}
use Rattle.std.proofs.lemmas.Bool.{cases_eq, ne_eqb, eqb-true, and_parts, or_cases, ltb-true, leb-true}
use Rattle.std.proofs.lemmas.Option.{cond_some, none-some}
use Rattle.std.specs.Str.{all_ascii_digits}
use Rattle.vtl_decimal.specs.Numeral.{Numeral, signed, IsSign, no_sign, plus, minus, IsPoint, no_point, point, IsMark, small, capital, IsExponent, no_exponent, times_ten_to, SpellsNumeral, is_mark, is_decimal_point, from_first, power_of, exponent_of, with_digits, unsigned_numeral_of, numeral_of}
use Rattle.vtl_decimal.proofs.SplitLemmas.{before_and_from, from_first_cases}

pub and_then_some : {A B : Type 0} (f : A → Option B) (o : Option A) (y : B) → option_and_then f o ≡ Some y → (x : A) × (o ≡ Some x) × (f x ≡ Some y)
and_then_some f (Some x) y h = (x, refl, h)
and_then_some f None y h = absurd (none-some y h)

-- a text is its sign and what stands behind it
record SignedText (t : List ℕ) : Type 0 where
  sign : List ℕ
  parts : t ≡ sign ++ without_leading_sign t
  signs : IsSign sign (starts_with_minus t)

no_sign_at : (c : ℕ) (cs : List ℕ) → (c == 45) ≡ false → (c == 43) ≡ false → SignedText (c ∷ cs)
no_sign_at c cs f g = record { sign = []; parts = rw (f, g) refl; signs = subst (IsSign []) (sym f) no_sign }

sign_split : (t : List ℕ) → SignedText t
sign_split [] = record { sign = []; parts = refl; signs = no_sign }
sign_split (c ∷ cs) =
    let P : ℕ → Type 0 = λ x. SignedText (x ∷ cs) in
    elim (cases_eq c 45) [
      | inl e ↦ subst P (sym e) (record { sign = 45 ∷ []; parts = refl; signs = minus })
      | inr f ↦ elim (cases_eq c 43) [
        | inl e ↦ subst P (sym e) (record { sign = 43 ∷ []; parts = refl; signs = plus })
        | inr g ↦ no_sign_at c cs (ne_eqb c 45 f) (ne_eqb c 43 g)
      ]
    ]

-- what stands from the point on is the point and the digits behind it
record PointedText (rest : List ℕ) : Type 0 where
  separator : List ℕ
  parts : rest ≡ separator ++ drop 1 rest
  points : IsPoint separator (drop 1 rest)

point_split : (t : List ℕ) → PointedText (from_first is_decimal_point t)
point_split t =
    let P : List ℕ → Type 0 = λ xs. PointedText xs in
    elim (from_first_cases is_decimal_point t) [
      | inl e ↦ subst P (sym e) (record { separator = []; parts = refl; points = no_point })
      | inr w ↦
          let at : w.0 ≡ 46 = eqb-true w.0 46 w.3 in
          subst P (sym w.2) (let Q : ℕ → Type 0 = λ x. PointedText (x ∷ w.1) in subst Q (sym at) (record { separator = 46 ∷ []; parts = refl; points = point w.1 }))
    ]

-- what stands from the mark on is an exponent, where it is read as one
mark_is : (b : ℕ) → is_mark b ≡ true → IsMark b
mark_is b h =
    elim (or_cases (b == 101) (b == 69) h) [
      | inl e ↦ subst IsMark (sym (eqb-true b 101 e)) small
      | inr e ↦ subst IsMark (sym (eqb-true b 69 e)) capital
    ]

power_is : (mark : ℕ) (t : List ℕ) (e : ℤ) → is_mark mark ≡ true → power_of t ≡ Some e → IsExponent (mark ∷ t) e
power_is mark t e marked h =
    let s = sign_split t in
    let ds = without_leading_sign t in
    let given = cond_some (all_ascii_digits ds && (nat_lt 0 (length ds) && nat_le (length ds) 3)) (signed (starts_with_minus t) (digits_value 10 ds)) e h in
    let facts = and_parts (all_ascii_digits ds) (nat_lt 0 (length ds) && nat_le (length ds) 3) given.0 in
    let bounds = and_parts (nat_lt 0 (length ds)) (nat_le (length ds) 3) facts.1 in
    let spelled = times_ten_to mark s.sign ds (starts_with_minus t) (mark_is mark marked) s.signs facts.0 (ltb-true 0 (length ds) bounds.0) (leb-true (length ds) 3 bounds.1) in
    let P : List ℕ → ℤ → Type 0 = λ text v. IsExponent (mark ∷ text) v in
    subst (λ text. P text e) (sym s.parts) (subst (P (s.sign ++ ds)) given.1 spelled)

exponent_split : (t : List ℕ) (e : ℤ) → exponent_of (from_first is_mark t) ≡ Some e → IsExponent (from_first is_mark t) e
exponent_split t e h =
    let P : List ℕ → Type 0 = λ xs. exponent_of xs ≡ Some e → IsExponent xs e in
    let Q : ℤ → Type 0 = λ v. IsExponent [] v in
    let all : P (from_first is_mark t) =
    elim (from_first_cases is_mark t) [
      | inl none ↦ subst P (sym none) (λ k. subst Q (let zero_ : pos 0 ≡ e = cc in zero_) no_exponent)
      | inr w ↦ subst P (sym w.2) (λ k. power_is w.0 w.1 e w.3 k)
    ] in
    all h

-- ---- together
unsigned_spelled : (sign body : List ℕ) (negative : Bool) (n : Numeral) → IsSign sign negative → unsigned_numeral_of negative body ≡ Some n → SpellsNumeral (sign ++ body) n
unsigned_spelled sign body negative n signs h =
    let mantissa = before_first is_mark body in
    let whole = before_first is_decimal_point mantissa in
    let fraction = drop 1 (from_first is_decimal_point mantissa) in
    let found = and_then_some (with_digits negative whole fraction) (exponent_of (from_first is_mark body)) n h in
    let e = found.0 in
    let given = cond_some (all_ascii_digits whole && (all_ascii_digits fraction && nat_lt 0 (length whole + length fraction))) (record { negative = negative; whole = whole; fraction = fraction; exponent = e }) n found.2 in
    let facts = and_parts (all_ascii_digits whole) (all_ascii_digits fraction && nat_lt 0 (length whole + length fraction)) given.0 in
    let more = and_parts (all_ascii_digits fraction) (nat_lt 0 (length whole + length fraction)) facts.1 in
    let p = point_split mantissa in
    let inner : mantissa ≡ whole ++ (p.separator ++ fraction) = before_and_from is_decimal_point mantissa ∙ ap (λ xs. whole ++ xs) p.parts in
    let outer : body ≡ (whole ++ (p.separator ++ fraction)) ++ from_first is_mark body = before_and_from is_mark body ∙ ap (λ xs. xs ++ from_first is_mark body) inner in
    let parts : body ≡ whole ++ (p.separator ++ (fraction ++ from_first is_mark body)) = outer ∙ (append_assoc whole (p.separator ++ fraction) (from_first is_mark body) ∙ ap (λ xs. whole ++ xs) (append_assoc p.separator fraction (from_first is_mark body))) in
    subst (SpellsNumeral (sign ++ body)) given.1 (record {
      sign = sign;
      separator = p.separator;
      power = from_first is_mark body;
      parts = ap (λ xs. sign ++ xs) parts;
      signs = signs;
      whole_digits = facts.0;
      points = p.points;
      fraction_digits = more.0;
      some_digit = ltb-true 0 (length whole + length fraction) more.1;
      exponents = exponent_split body e found.1;
    })

-- the numeral that is read is one that the text spells
pub numeral_spelled : (t : List ℕ) (n : Numeral) → numeral_of t ≡ Some n → SpellsNumeral t n
numeral_spelled t n h =
    let s = sign_split t in
    let P : List ℕ → Type 0 = λ text. SpellsNumeral text n in
    subst P (sym s.parts) (unsigned_spelled s.sign (without_leading_sign t) (starts_with_minus t) n s.signs h)
