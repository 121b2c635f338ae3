-- Where a text may be cut, and what is ASCII.
use Rattle.std.proofs.Common.{◌≡◌, ◌≤◌, ◌<◌, ◌+◌, ◌∷◌, ◌++◌, ◌∙◌, [], ℕ, List, Bool, true, length, take, drop, get_or, sym, ap, subst, refl, arith, append_assoc, length-append, IsUtf8}
use Rattle.std.specs.Char.{is_ascii_digit}
use Rattle.std.specs.List.{list_all}
use Rattle.std.specs.Str.{IsAscii, IsCharBoundary}
use Rattle.std.proofs.lemmas.Bool.{and_parts}
use Rattle.std.proofs.lemmas.Bool.Decides.{nat_tests}
use Rattle.std.proofs.lemmas.List.{length-take-le, take-append-drop}
use Rattle.std.proofs.lemmas.Str.{IsCharBoundary-after_ascii, IsCharBoundary-before_ascii}
use Rattle.std.proofs.lemmas.Str.Ascii.{IsAscii-cons, IsAscii-nil}
use Rattle.vtl_text.specs.Words.{is_word_character}

pub word-ascii : (byte : ℕ) → is_word_character byte ≡ true → byte < 128
word-ascii byte e = grind (arith, nat_tests, e)

pub digit-ascii : (byte : ℕ) → is_ascii_digit byte ≡ true → byte < 128
digit-ascii byte e = grind (arith, nat_tests, e)

pub all-ascii : (test : ℕ → Bool) (bytes : List ℕ) → ((byte : ℕ) → test byte ≡ true → byte < 128) → list_all test bytes ≡ true → IsAscii bytes
all-ascii test [] ascii e = IsAscii-nil
all-ascii test (byte ∷ bytes) ascii e =
    let (head, tail) = and_parts (test byte) (list_all test bytes) e in
    IsAscii-cons byte bytes (ascii byte head) (all-ascii test bytes ascii tail)

-- the byte in the middle of a list
at-middle : (front : List ℕ) (byte : ℕ) (rest : List ℕ) → get_or (front ++ byte ∷ rest) (length front) 0 ≡ byte
at-middle [] byte rest = refl
at-middle (first ∷ front) byte rest = at-middle front byte rest

pub cut-before : (text front rest : List ℕ) (byte : ℕ) → text ≡ front ++ byte ∷ rest → byte < 128 → IsCharBoundary text (length front)
cut-before text front rest byte e ascii =
    let at : get_or text (length front) 0 ≡ byte = ap (λ l. get_or l (length front) 0) e ∙ at-middle front byte rest in
    IsCharBoundary-before_ascii text (length front) (omega (arith, ap length e, length-append front (byte ∷ rest))) (omega arith)

pub cut-after : (text front rest : List ℕ) (byte : ℕ) → IsUtf8 text → text ≡ front ++ byte ∷ rest → byte < 128 → IsCharBoundary text (length front + 1)
cut-after text front rest byte u e ascii =
    let at : get_or text (length front) 0 ≡ byte = ap (λ l. get_or l (length front) 0) e ∙ at-middle front byte rest in
    IsCharBoundary-after_ascii text (length front) u (omega (arith, ap length e, length-append front (byte ∷ rest))) (omega arith)

-- bytes of which the last is ASCII
pub record EndsAscii (bytes : List ℕ) : Type 0 where
  pub front : List ℕ
  pub last : ℕ
  pub is : bytes ≡ front ++ last ∷ []
  pub ascii : last < 128

pub ends-more : (byte : ℕ) (bytes : List ℕ) → EndsAscii bytes → EndsAscii (byte ∷ bytes)
ends-more byte bytes ends = record { front = byte ∷ ends.front; last = ends.last; is = ap (λ l. byte ∷ l) ends.is; ascii = ends.ascii }

pub ends-append : (xs bytes : List ℕ) → EndsAscii bytes → EndsAscii (xs ++ bytes)
ends-append [] bytes ends = ends
ends-append (x ∷ xs) bytes ends = ends-more x (xs ++ bytes) (ends-append xs bytes ends)

pub ends-all : (test : ℕ → Bool) (bytes : List ℕ) → ((byte : ℕ) → test byte ≡ true → byte < 128) → 0 < length bytes → list_all test bytes ≡ true → EndsAscii bytes
ends-all test [] ascii some e = absurd (omega arith)
ends-all test (byte ∷ []) ascii some e = record { front = []; last = byte; is = refl; ascii = ascii byte (and_parts (test byte) true e).0 }
ends-all test (byte ∷ second ∷ bytes) ascii some e =
    ends-more byte (second ∷ bytes) (ends-all test (second ∷ bytes) ascii (omega arith) (and_parts (test byte) (list_all test (second ∷ bytes)) e).1)

-- a text may be cut behind them
pub cut-behind : (text bytes rest : List ℕ) → IsUtf8 text → text ≡ bytes ++ rest → EndsAscii bytes → IsCharBoundary text (length bytes)
cut-behind text bytes rest u e ends =
    let whole : text ≡ ends.front ++ ends.last ∷ rest = e ∙ ap (λ l. l ++ rest) ends.is ∙ append_assoc ends.front (ends.last ∷ []) rest in
    let size : length ends.front + 1 ≡ length bytes = omega (arith, ap length ends.is, length-append ends.front (ends.last ∷ [])) in
    subst (IsCharBoundary text) size (cut-after text ends.front rest ends.last u whole ends.ascii)

pub cut-run : (test : ℕ → Bool) (text : List ℕ) (size : ℕ) → ((byte : ℕ) → test byte ≡ true → byte < 128) → IsUtf8 text → 0 < size → size ≤ length text → list_all test (take size text) ≡ true
    → IsCharBoundary text size
cut-run test text size ascii u some within e =
    let is : length (take size text) ≡ size = length-take-le size text within in
    subst (IsCharBoundary text) is (cut-behind text (take size text) (drop size text) u (sym (take-append-drop size text)) (ends-all test (take size text) ascii (omega arith) e))
