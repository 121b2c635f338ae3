-- A text by its bytes and by its characters.
use Rattle.std.proofs.Common.{◌≡◌, ◌≤◌, ◌<◌, ◌+◌, ◌-◌, ◌∷◌, ◌++◌, ◌∙◌, ◌==◌, [], ℕ, List, Bool, None, Result, Ok, Err, IfOk, is_ok, if◌then◌else◌, true, not, chars, length, take, drop, get_or, sym, ap, subst, refl, arith, append_assoc, length-append, length-drop, IsUtf8, IsCharBoundary, encode_utf8, encode_utf8_all, take-append-drop, take_at, drop_at}
use Rattle.std.specs.List.{list_all}
use Rattle.std.specs.Str.{IsAscii, NoCharPasses, NonePass}
use Rattle.std.specs.Str.Pattern.{FindsChar, FindsCharPrefix, SplitsAroundMatch, StripsPrefix}
use Rattle.std.proofs.lemmas.Bool.{and_from, and_parts}
use Rattle.std.proofs.lemmas.List.{append_cancel_right}
use Rattle.std.proofs.lemmas.Str.{IsCharBoundary-at_seam, IsCharBoundary-from_take, IsCharBoundary-before_ascii, IsUtf8-drop, IsUtf8-from_ascii, IsUtf8-past_char, IsUtf8-take, chars-IsAscii, chars-append, chars_from_encodes, chars_past_char, encode_ascii, encodes-IsAscii, encodes-append, encodes-chars}
use Rattle.std.proofs.lemmas.Str.Ascii.{IsAscii-cons, IsAscii-nil}
use Rattle.sql_lexer.specs.Front.{Lacks}
use Rattle.sql_lexer.specs.Spelling.{size}

pub all-ascii : (test : ℕ → Bool) (cs : List ℕ) → ((c : ℕ) → test c ≡ true → c < 128) → list_all test cs ≡ true → IsAscii cs
all-ascii test [] ascii e = IsAscii-nil
all-ascii test (c ∷ cs) ascii e =
    let (head, tail) = and_parts (test c) (list_all test cs) e in
    IsAscii-cons c cs (ascii c head) (all-ascii test cs ascii tail)

-- ASCII at the front
pub front-chars : (text front rest : List ℕ) → IsAscii front → text ≡ front ++ rest → chars text ≡ front ++ chars rest
front-chars text front rest ascii e = ap chars e ∙ chars-append front rest (IsUtf8-from_ascii front ascii) ∙ ap (λ l. l ++ chars rest) (chars-IsAscii front ascii)

pub front-bytes : (text front rest : List ℕ) → IsUtf8 text → IsAscii front → chars text ≡ front ++ rest → text ≡ front ++ encode_utf8_all rest
front-bytes text front rest u ascii e = sym (encodes-chars text u) ∙ ap encode_utf8_all e ∙ encodes-append front rest ∙ ap (λ l. l ++ encode_utf8_all rest) (encodes-IsAscii front ascii)

pub tail-utf8 : (text front rest : List ℕ) → IsUtf8 text → IsAscii front → text ≡ front ++ rest → IsUtf8 rest
tail-utf8 text front rest u ascii e =
    let n = length front in
    let within : n ≤ length text = omega (arith, ap length e, length-append front rest) in
    let taken : take n text ≡ front = ap (take n) e ∙ take_at front rest n refl in
    let left : drop n text ≡ rest = ap (drop n) e ∙ drop_at front rest n refl in
    subst IsUtf8 left (IsUtf8-drop text n u (IsCharBoundary-from_take text n u within (subst IsUtf8 (sym taken) (IsUtf8-from_ascii front ascii))))

-- a character at the front
pub record Stripped (c : ℕ) (text rest : List ℕ) : Type 0 where
  pub is : chars text ≡ c ∷ chars rest
  pub utf8 : IsUtf8 rest

pub stripped : (c : ℕ) (text rest : List ℕ) → IsUtf8 text → StripsPrefix (FindsCharPrefix c) text rest → Stripped c text rest
stripped c text rest u h = record {
  is = chars_past_char text (drop h.0 text) c u h.1.split ∙ ap (λ l. c ∷ chars l) (sym h.2);
  utf8 = subst IsUtf8 (sym h.2) (IsUtf8-past_char text (drop h.0 text) c u h.1.split);
}

pub not-stripped : (c : ℕ) (text rest : List ℕ) → IsUtf8 text → FindsCharPrefix c text None → chars text ≡ c ∷ rest → ⊥
not-stripped c text rest u none e = none (encode_utf8_all rest) (sym (encodes-chars text u) ∙ ap encode_utf8_all e)

-- a search for a character
lacks-from : (c : ℕ) (cs : List ℕ) → NonePass (λ d. d == c) cs → Lacks c cs
lacks-from c [] none = refl
lacks-from c (d ∷ cs) none = and_from (not (d == c)) _ (ap not none.0) (lacks-from c cs none.1)

lacks-chars : (c : ℕ) (text : List ℕ) → IsUtf8 text → NoCharPasses (λ d. d == c) text → Lacks c (chars text)
lacks-chars c text u none = subst (Lacks c) (chars_from_encodes none.0 text u none.1) (lacks-from c none.0 none.2)

pub not-split : (c : ℕ) (text : List ℕ) → IsUtf8 text → FindsChar c text None → Lacks c (chars text)
not-split c text u none = lacks-chars c text u none

pub record Split (c : ℕ) (text front rest : List ℕ) : Type 0 where
  pub is : chars text ≡ chars front ++ c ∷ chars rest
  pub lacks : Lacks c (chars front)
  pub front_utf8 : IsUtf8 front
  pub rest_utf8 : IsUtf8 rest

pub split-at : (c : ℕ) (text front rest : List ℕ) → c < 128 → IsUtf8 text → SplitsAroundMatch (FindsChar c) text front rest → Split c text front rest
split-at c text front rest ascii u h =
    let (i, j, found, front_is, rest_is, le, size, sizes) = h in
    let here : drop i text ≡ encode_utf8 c ++ drop j text = found.1.split in
    let within : i < length text = omega (arith, ap length here, length-append (encode_utf8 c) (drop j text), ap length (encode_ascii c ascii), length-drop i text) in
    let at : get_or text i 0 ≡ c = found.1.byte ascii in
    let cut : IsCharBoundary text i = IsCharBoundary-before_ascii text i within (subst (λ n. n < 128) (sym at) ascii) in
    let taken = IsUtf8-take text i u cut in
    let left = IsUtf8-drop text i u cut in
    let next : chars (drop i text) ≡ c ∷ chars rest = chars_past_char (drop i text) (drop j text) c left here ∙ ap (λ l. c ∷ chars l) (sym rest_is) in
    record {
      is = ap chars (sym (take-append-drop i text)) ∙ chars-append (take i text) (drop i text) taken ∙ ap (λ l. l ++ chars (drop i text)) (ap chars (sym front_is)) ∙ ap (λ l. chars front ++ l) next;
      lacks = subst (λ l. Lacks c (chars l)) (sym front_is) (lacks-chars c (take i text) taken found.0);
      front_utf8 = subst IsUtf8 (sym front_is) taken;
      rest_utf8 = subst IsUtf8 (sym rest_is) (IsUtf8-past_char (drop i text) (drop j text) c left here);
    }

-- a character and a text behind a text
pub pushed : (c : ℕ) (text part all : List ℕ) → c < 128 → IsUtf8 text → IsUtf8 part → all ≡ (text ++ encode_utf8 c) ++ part → chars all ≡ chars text ++ c ∷ chars part
pushed c text part all ascii u v e =
    let one : encode_utf8 c ≡ c ∷ [] = encode_ascii c ascii in
    let front : IsAscii (c ∷ []) = IsAscii-cons c [] ascii IsAscii-nil in
    let tail : chars (encode_utf8 c ++ part) ≡ c ∷ chars part = front-chars (encode_utf8 c ++ part) (c ∷ []) part front (ap (λ l. l ++ part) one) in
    ap chars (e ∙ append_assoc text (encode_utf8 c) part) ∙ chars-append text (encode_utf8 c ++ part) u ∙ ap (λ l. chars text ++ l) tail

-- a text, cut before the rest with which it ends
pub record Cut (text rest front : List ℕ) : Type 0 where
  pub fits : length rest ≤ length text
  pub sizes : length text ≡ size front + length rest
  pub seam : IsCharBoundary text (length text - length rest)
  pub front_is : chars (take (length text - length rest) text) ≡ front

pub cut : (text rest front : List ℕ) → IsUtf8 text → IsUtf8 rest → chars text ≡ front ++ chars rest → Cut text rest front
cut text rest front u v e =
    let bytes = encode_utf8_all front in
    let place = length text - length rest in
    let whole : text ≡ bytes ++ rest = sym (encodes-chars text u) ∙ ap encode_utf8_all e ∙ encodes-append front (chars rest) ∙ ap (λ l. bytes ++ l) (encodes-chars rest v) in
    let all : length text ≡ size front + length rest = ap length whole ∙ length-append bytes rest in
    let here : length bytes ≡ place = omega (arith, all) in
    let seam : IsCharBoundary text place = subst (IsCharBoundary text) here (IsCharBoundary-at_seam text bytes rest whole v) in
    let back : drop place text ≡ rest = ap (drop place) whole ∙ drop_at bytes rest place here in
    let parts : chars (take place text) ++ chars rest ≡ chars text =
    ap (λ l. chars (take place text) ++ chars l) (sym back) ∙ sym (chars-append (take place text) (drop place text) (IsUtf8-take text place u seam)) ∙ ap chars (take-append-drop place text) in
    record { fits = omega (arith, all); sizes = all; seam = seam; front_is = append_cancel_right (chars (take place text)) front (chars rest) (parts ∙ e) }

pub quote-chars : (c : ℕ) → c < 128 → chars (encode_utf8 c) ≡ c ∷ []
quote-chars c ascii = ap chars (encode_ascii c ascii) ∙ chars-IsAscii (c ∷ []) (IsAscii-cons c [] ascii IsAscii-nil)

pub pushed-one : (c : ℕ) (text all : List ℕ) → c < 128 → IsUtf8 text → all ≡ text ++ encode_utf8 c → chars all ≡ chars text ++ c ∷ []
pushed-one c text all ascii u e = ap chars e ∙ chars-append text (encode_utf8 c) u ∙ ap (λ l. chars text ++ l) (quote-chars c ascii)

-- what a last call appends
pub appended : {X Y : Type 0} (r : Result X Y) (text part all : List ℕ) → IsUtf8 text → all ≡ (if is_ok r then text ++ part else text) → IfOk r (λ done. chars all ≡ chars text ++ chars part)
appended (Ok x) text part all u e = ap chars e ∙ chars-append text part u
appended (Err x) text part all u e = tt
