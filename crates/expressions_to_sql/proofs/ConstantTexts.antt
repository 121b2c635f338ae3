-- The texts of constants as the program makes them.
use Rattle.std.proofs.Common.{◌≡◌, ℕ, zero, suc, ℤ, pos, ◌*◌, ◌/◌, ◌%◌, ◌<◌, ◌≤◌, ◌^◌, Bool, true, false, cond, List, [], ◌∷◌, ◌++◌, length, refl, sym, ap, subst, ◌∙◌, arith, append-nil, pow-suc, eqb-true}
use Rattle.std.specs.Prelude.{◌==◌, if◌then◌else◌, unsigned_abs}
use Rattle.std.specs.Fmt.{decimal}
use Rattle.std.specs.Int.{is_negative}
use Rattle.std.specs.Str.{IsAscii}
use Rattle.std.proofs.Math.Nat.{mod-lt, one-le-pow}
use Rattle.std.proofs.lemmas.Fmt.{IsAscii-decimal}
use Rattle.std.proofs.lemmas.Str.{IsUtf8-from_ascii, chars-IsAscii}
use Rattle.vtl_decimal.specs.Written.{behind_point, last_digits, number_text, shortest_digits}
use Rattle.vtl_decimal.proofs.WritingLemmas.{length-last_digits, shortest_digits-none, shortest_digits-suc}
use Rattle.vtl_decimal.specs.Settings.{Settings}
use Rattle.expressions_to_sql.specs.Constants.{decimal_text, some_digit}
use Rattle.expressions_to_sql.proofs.WrittenNumbers.{number_ascii}

pub ruleset ascii_texts = (IsUtf8-from_ascii, chars-IsAscii)

-- ---- integers

pub integer_ascii : (n : ℤ) → unsigned_abs n < 2 ^ 64 → IsAscii (decimal (unsigned_abs n))
integer_ascii n h = IsAscii-decimal (unsigned_abs n) h

-- ---- numbers

-- without a rest there are no digits behind the point
no_rest : (w : ℕ) → shortest_digits w 0 ≡ []
no_rest zero = shortest_digits-none 0
no_rest (suc w) = shortest_digits-suc w 0 ∙ no_rest w

-- with one there are some
some_rest : (w n : ℕ) → 0 < n → n < 10 ^ w → 0 < length (shortest_digits w n)
some_rest zero n h i = absurd (omega (arith, h, i))
some_rest (suc w) n h i = go (n % 10 == 0) refl (some_rest w (n / 10))
  where
    go : (b : Bool) → (n % 10 == 0) ≡ b → (0 < n / 10 → n / 10 < 10 ^ w → 0 < length (shortest_digits w (n / 10))) → 0 < length (shortest_digits (suc w) n)
    go true e ih =
        let none : n % 10 ≡ 0 = eqb-true (n % 10) 0 e in
        let power : 10 ^ suc w ≡ 10 ^ w * 10 = pow-suc 10 w in
        let same : shortest_digits (suc w) n ≡ shortest_digits w (n / 10) = shortest_digits-suc w n ∙ ap (λ b. cond b (shortest_digits w (n / 10)) (last_digits (suc w) n)) e in
        subst (λ ds. 0 < length ds) (sym same) (ih (omega (arith, h, none)) (omega (arith, i, power)))
    go false e ih =
        let same : shortest_digits (suc w) n ≡ last_digits (suc w) n = shortest_digits-suc w n ∙ ap (λ b. cond b (shortest_digits w (n / 10)) (last_digits (suc w) n)) e in
        subst (λ ds. 0 < length ds) (sym same) (omega (arith, length-last_digits (suc w) n))

with_point : (q ds : List ℕ) → 0 < length ds → (q ++ behind_point ds) ++ [] ≡ q ++ 46 ∷ some_digit ds
with_point q [] h = absurd (omega (arith, h))
with_point q (d ∷ ds) h = append-nil (q ++ 46 ∷ d ∷ ds)

-- a point and a zero behind the text of a whole number
pointed : (s n : ℕ) → number_text s (pos n) ++ (if n % 10 ^ s == 0 then 46 ∷ 48 ∷ [] else []) ≡ decimal_text s n
pointed s n = ap (λ t. t ++ (if n % 10 ^ s == 0 then 46 ∷ 48 ∷ [] else [])) plain ∙ go (n % 10 ^ s == 0) refl
  where
    plain : number_text s (pos n) ≡ decimal (n / 10 ^ s) ++ behind_point (shortest_digits s (n % 10 ^ s))
    plain =
        let not_below : is_negative (pos n) ≡ false = grind arith in
        ap (λ b. cond b (45 ∷ []) [] ++ (decimal (n / 10 ^ s) ++ behind_point (shortest_digits s (n % 10 ^ s)))) not_below

    go : (b : Bool) → (n % 10 ^ s == 0) ≡ b → (decimal (n / 10 ^ s) ++ behind_point (shortest_digits s (n % 10 ^ s))) ++ (if b then 46 ∷ 48 ∷ [] else []) ≡ decimal_text s n
    go true e =
        let none : shortest_digits s (n % 10 ^ s) ≡ [] = ap (shortest_digits s) (eqb-true (n % 10 ^ s) 0 e) ∙ no_rest s in
        ap (λ ds. (decimal (n / 10 ^ s) ++ behind_point ds) ++ 46 ∷ 48 ∷ []) none
        ∙ ap (λ t. t ++ 46 ∷ 48 ∷ []) (append-nil (decimal (n / 10 ^ s)))
        ∙ ap (λ ds. decimal (n / 10 ^ s) ++ 46 ∷ some_digit ds) (sym none)
    go false e = with_point (decimal (n / 10 ^ s)) (shortest_digits s (n % 10 ^ s)) (some_rest s (n % 10 ^ s) (grind arith) (mod-lt n (one-le-pow s 10 (omega arith))))

-- the bytes of a number, made piece by piece
pub number_bytes : (p : Settings) (n : ℕ) (k : ℤ) (text bytes : List ℕ) (whole : Bool) → p.scale ≤ 9 → n < 10 ^ 18 → k ≡ pos n → text ≡ number_text p.scale k → whole ≡ (n % 10 ^ p.scale == 0) → bytes ≡ text ++ (if whole then 46 ∷ 48 ∷ [] else [])
    → (bytes ≡ decimal_text p.scale n) × IsAscii bytes
number_bytes p n k text bytes whole low small number written is made =
    let digits : bytes ≡ decimal_text p.scale n =
    made
    ∙ ap (λ t. t ++ (if whole then 46 ∷ 48 ∷ [] else [])) (written ∙ ap (number_text p.scale) number)
    ∙ ap (λ b. number_text p.scale (pos n) ++ (if b then 46 ∷ 48 ∷ [] else [])) is
    ∙ pointed p.scale n in
    (digits, subst IsAscii (sym digits) (number_ascii p low n small))
