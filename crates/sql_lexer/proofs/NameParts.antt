-- The names, by parts.
use Rattle.std.proofs.Common.{◌≡◌, ◌<◌, ◌+◌, ◌-◌, ◌∷◌, ◌++◌, ◌∙◌, ◌&&◌, ℕ, List, Bool, true, false, not, nat_lt, length, chars, sym, ap, arith, length-append, IsUtf8}
use Rattle.std.specs.Char.{is_control}
use Rattle.std.proofs.lemmas.Bool.{and_from, and_parts}
use Rattle.std.proofs.lemmas.Bool.Decides.{nat_tests}
use Rattle.std.proofs.lemmas.List.Folds.{list_all-append}
use Rattle.std.proofs.lemmas.Str.{encode_ascii, encodes-append, encodes-chars, length-le-encodes}
use Rattle.sql_lexer.specs.Spelling.{fits_name, has_no_control, is_name, size}

pub both_pass : (a b r : Bool) → a ≡ true → r ≡ b → r ≡ a && b
both_pass a b r p e = e ∙ sym (ap (λ k. k && b) p)

pub one_fails : (a b r : Bool) → r ≡ a → r ≡ false → r ≡ a && b
one_fails a b r e p = p ∙ sym (ap (λ k. k && b) (sym e ∙ p))

pub name-is : (text : List ℕ) → IsUtf8 text → is_name (chars text) ≡ fits_name (length text) && has_no_control (chars text)
unfolding is_name
name-is text u = ap (λ l. fits_name (length l) && has_no_control (chars text)) (encodes-chars text u)

pub size-append : (xs ys : List ℕ) → size (xs ++ ys) ≡ size xs + size ys
size-append xs ys = ap length (encodes-append xs ys) ∙ length-append _ _

size-quoted : (xs ys : List ℕ) → size (xs ++ 34 ∷ ys) ≡ size xs + (1 + size ys)
size-quoted xs ys =
    let one : size (34 ∷ ys) ≡ 1 + size ys = length-append _ _ ∙ ap (λ l. length l + size ys) (encode_ascii 34 (omega arith)) in
    size-append xs (34 ∷ ys) ∙ ap (λ n. size xs + n) one

fits-quoted : (n m : ℕ) → fits_name (n + (1 + m)) ≡ nat_lt m (256 - n)
fits-quoted n m = grind (arith, nat_tests)

no_control-quoted : (xs ys : List ℕ) → has_no_control (xs ++ 34 ∷ ys) ≡ has_no_control xs && has_no_control ys
no_control-quoted xs ys = list_all-append (λ c. not (is_control c)) xs (34 ∷ ys)

pub name-quoted : (xs ys : List ℕ) → is_name (xs ++ 34 ∷ ys) ≡ nat_lt (size ys) (256 - size xs) && (has_no_control xs && has_no_control ys)
unfolding is_name
name-quoted xs ys =
    ap (λ b. b && has_no_control (xs ++ 34 ∷ ys)) (ap fits_name (size-quoted xs ys) ∙ fits-quoted (size xs) (size ys))
    ∙ ap (λ b. nat_lt (size ys) (256 - size xs) && b) (no_control-quoted xs ys)

-- a front of a name is one, if it is not empty
pub name-front : (xs ys : List ℕ) → 0 < length xs → is_name (xs ++ ys) ≡ true → is_name xs ≡ true
unfolding is_name
name-front xs ys some e =
    let (fits, plain) = and_parts (fits_name (size (xs ++ ys))) (has_no_control (xs ++ ys)) e in
    let below : fits_name (size xs + size ys) ≡ true = ap fits_name (sym (size-append xs ys)) ∙ fits in
    let here : fits_name (size xs) ≡ true = fits-front (size xs) (size ys) (omega (arith, length-le-encodes xs)) below in
    and_from (fits_name (size xs)) (has_no_control xs) here (and_parts (has_no_control xs) (has_no_control ys) (sym (list_all-append (λ c. not (is_control c)) xs ys) ∙ plain)).0
  where
    fits-front : (n m : ℕ) → 0 < n → fits_name (n + m) ≡ true → fits_name n ≡ true
    fits-front n m some h = grind (arith, nat_tests, h)

pub name-quoted_bytes : (front back : List ℕ) → IsUtf8 front → IsUtf8 back
    → is_name (chars front ++ 34 ∷ chars back) ≡ nat_lt (length back) (256 - length front) && (has_no_control (chars front) && has_no_control (chars back))
name-quoted_bytes front back u v =
    name-quoted (chars front) (chars back) ∙ ap (λ l. nat_lt (length l) (256 - size (chars front)) && (has_no_control (chars front) && has_no_control (chars back))) (encodes-chars back v)
    ∙ ap (λ l. nat_lt (length back) (256 - length l) && (has_no_control (chars front) && has_no_control (chars back))) (encodes-chars front u)
