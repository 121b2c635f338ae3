-- The number at the front of a text.
use Rattle.std.proofs.Common.{◌≡◌, ◌≢◌, ◌≤◌, ◌<◌, ◌+◌, ◌∷◌, ◌++◌, ◌∙◌, [], ℕ, zero, suc, List, true, false, nat_eq, length, take, drop, chars, sym, ap, subst, refl, arith, IsUtf8, append_assoc, length-append}
use Rattle.std.specs.Char.{is_ascii_digit}
use Rattle.std.specs.List.{list_all}
use Rattle.std.specs.Cmp.Lexicographic.{pointwise}
use Rattle.std.specs.Str.{IsCharBoundary}
use Rattle.std.proofs.Math.Seq.{take-append_seam, drop-append_seam}
use Rattle.std.proofs.lemmas.Bool.{and_from, and_parts, false≢true}
use Rattle.std.proofs.lemmas.Bool.Decides.{nat_tests}
use Rattle.std.proofs.lemmas.List.{length-take-le, take-append-drop}
use Rattle.std.proofs.lemmas.List.Folds.{list_all-append}
use Rattle.std.proofs.lemmas.Slice.Eq.{bytes_eq-Decides}
use Rattle.std.proofs.lemmas.Str.{chars-IsAscii}
use Rattle.vtl_text.specs.Words.{is_word_character}
use Rattle.vtl_lexer.specs.Found.{HasNoFraction, IsFractionOf, IsTokenOf}
use Rattle.vtl_lexer.specs.Leads.{lead_of}
use Rattle.vtl_lexer.specs.Spelling.{IsDigits, Spells}
use Rattle.vtl_lists.specs.Runs.{begins_with}
use Rattle.vtl_lexer.specs.Tokens.{IsToken}
use Rattle.vtl_lexer.specs.declared.lead.Lead.TheVariants.{Digit}
use Rattle.vtl_lexer.specs.declared.token.TokenKind.{TokenKind}
use Rattle.vtl_lexer.specs.declared.token.TokenKind.TheVariants as k
use Rattle.vtl_lexer.proofs.CutLemmas.{all-ascii, cut-behind, cut-run, digit-ascii, ends-all, ends-append, ends-more, word-ascii}
use Rattle.vtl_lexer.proofs.LeadLemmas.{lead-digit}
use Rattle.vtl_lists.proofs.Runs.{run-longest, run-same}
use Rattle.vtl_lexer.proofs.SearchLemmas.{IsRun}
use Rattle.vtl_lexer.proofs.SpellingLemmas.{front-lead, lead_kind}

-- a token in a text that is parted
pub token-of : (kind : TokenKind) (text bytes rest : List ℕ) → text ≡ bytes ++ rest → IsToken kind bytes rest → IsTokenOf text (record { kind = kind; size = length bytes })
token-of kind text bytes rest e token =
    let front : take (length bytes) text ≡ bytes = ap (take (length bytes)) e ∙ take-append_seam bytes rest in
    let back : drop (length bytes) text ≡ rest = ap (drop (length bytes)) e ∙ drop-append_seam bytes rest in
    record {
      within = omega (arith, ap length e, length-append bytes rest);
      token = subst (λ l. IsToken kind l (drop (length bytes) text)) (sym front) (subst (IsToken kind bytes) (sym back) token);
    }

pub never : (rest : List ℕ) → begins_with (λ byte. false) rest ≡ false
never [] = refl
never (byte ∷ rest) = refl

-- there are digits
pub digits-some : (text : List ℕ) (size : ℕ) → lead_of text ≡ Digit → IsRun is_ascii_digit text size → 0 < size
digits-some [] size lead run = absurd (cc lead)
digits-some (byte ∷ rest) zero lead run = absurd (false≢true (sym run.stops ∙ lead-digit byte lead))
digits-some (byte ∷ rest) (suc size) lead run = omega arith

pub digits-of : (text : List ℕ) (size : ℕ) → lead_of text ≡ Digit → IsRun is_ascii_digit text size → IsDigits (take size text)
digits-of text size lead run =
    let is = length-take-le size text run.within in
    let some = digits-some text size lead run in
    (omega (arith, is, some), run.passes)

pub digits-cut : (text : List ℕ) (size : ℕ) → IsUtf8 text → lead_of text ≡ Digit → IsRun is_ascii_digit text size → IsCharBoundary text size
digits-cut text size u lead run = cut-run is_ascii_digit text size digit-ascii u (digits-some text size lead run) run.within run.passes

-- a number that starts here begins with the same digits
pub data NumberForm (text bytes rest : List ℕ) (size : ℕ) : Type 0 where
  whole : list_all is_ascii_digit bytes ≡ true → NumberForm text bytes rest size
  parted : (part : List ℕ) → bytes ≡ take size text ++ 46 ∷ part → IsDigits part → drop size text ≡ 46 ∷ part ++ rest → NumberForm text bytes rest size

point-stops : (rest : List ℕ) → begins_with is_ascii_digit (46 ∷ rest) ≡ false
point-stops rest = refl

number-form : (kind : TokenKind) (text bytes rest : List ℕ) (size : ℕ) → lead_kind kind ≡ Digit → IsRun is_ascii_digit text size → text ≡ bytes ++ rest → Spells kind bytes → NumberForm text bytes rest size
number-form (k.Integer digits) text bytes rest size lead run e spelled = whole (subst (λ l. list_all is_ascii_digit l ≡ true) (sym spelled.0) spelled.1.1)
number-form (k.Decimal number) text bytes rest size lead run e spelled =
    let (front, part, is, parts, d, f) = spelled in
    let bytes_are : bytes ≡ front ++ 46 ∷ part = is ∙ parts in
    let split : take size text ++ drop size text ≡ front ++ (46 ∷ part ++ rest) =
    take-append-drop size text ∙ e ∙ ap (λ l. l ++ rest) bytes_are ∙ append_assoc front (46 ∷ part) rest in
    let same = run-same is_ascii_digit (take size text) (drop size text) front (46 ∷ part ++ rest) split run.passes run.stops d.1 (point-stops (part ++ rest)) in
    parted part (bytes_are ∙ ap (λ l. l ++ 46 ∷ part) (sym same.0)) f same.1
number-form kind text bytes rest size lead run e spelled = absurd (cc lead)

pub form-of : (kind : TokenKind) (text bytes rest : List ℕ) (size : ℕ) → lead_of text ≡ Digit → IsRun is_ascii_digit text size → text ≡ bytes ++ rest → Spells kind bytes → NumberForm text bytes rest size
form-of kind text bytes rest size lead run e spelled = number-form kind text bytes rest size (sym (front-lead kind text bytes rest e spelled) ∙ lead) run e spelled

-- digits without a fraction
pub integer-token : (text name : List ℕ) (size : ℕ) → lead_of text ≡ Digit → IsRun is_ascii_digit text size → HasNoFraction (drop size text) → name ≡ chars (take size text)
    → IsTokenOf text (record { kind = k.Integer name; size = size })
integer-token text name size lead run none named =
    let is : take size text ≡ name = sym (chars-IsAscii (take size text) (all-ascii is_ascii_digit (take size text) digit-ascii run.passes)) ∙ sym named in
    record {
      within = run.within;
      token = record {
        spelled = (is, subst IsDigits is (digits-of text size lead run));
        ends = never (drop size text);
        longest = λ other more behind e spelled. by more behind e (form-of other text more behind size lead run (sym (take-append-drop size text) ∙ e) spelled);
      };
    }
  where
    by : (more behind : List ℕ) → take size text ++ drop size text ≡ more ++ behind → NumberForm text more behind size → length more ≤ length (take size text)
    by more behind e (whole digits) = run-longest is_ascii_digit (take size text) (drop size text) more behind e run.stops digits
    by more behind e (parted part parts digits back) = absurd (none part behind back digits)

-- digits and a fraction
digits-words : (bytes : List ℕ) → list_all is_ascii_digit bytes ≡ true → list_all is_word_character bytes ≡ true
digits-words [] e = refl
digits-words (byte ∷ bytes) e =
    let (head, tail) = and_parts (is_ascii_digit byte) (list_all is_ascii_digit bytes) e in
    let word : is_word_character byte ≡ true = grind (arith, nat_tests, head) in
    and_from (is_word_character byte) (list_all is_word_character bytes) word (digits-words bytes tail)

pub decimal-words : (front part : List ℕ) → list_all is_ascii_digit front ≡ true → list_all is_ascii_digit part ≡ true → list_all is_word_character (front ++ 46 ∷ part) ≡ true
decimal-words front part d f =
    list_all-append is_word_character front (46 ∷ part) ∙ and_from (list_all is_word_character front) (list_all is_word_character part) (digits-words front d) (digits-words part f)

module _ (text : List ℕ) (size fraction : ℕ) (lead : lead_of text ≡ Digit) (run : IsRun is_ascii_digit text size) (found : IsFractionOf (drop size text) fraction) where
  bytes : List ℕ
  bytes = take size text ++ 46 ∷ found.digits

  split : text ≡ bytes ++ found.rest
  unfolding bytes
  split = sym (take-append-drop size text) ∙ ap (λ l. take size text ++ l) found.split ∙ sym (append_assoc (take size text) (46 ∷ found.digits) found.rest)

  size-is : length bytes ≡ size + fraction
  unfolding bytes
  size-is = omega (arith, length-append (take size text) (46 ∷ found.digits), length-take-le size text run.within, found.is)

  words : list_all is_word_character bytes ≡ true
  unfolding bytes
  words = decimal-words (take size text) found.digits run.passes found.some.1

  longest : (more behind : List ℕ) → text ≡ more ++ behind → NumberForm text more behind size → length more ≤ length bytes
  longest more behind e (whole digits) =
      let le = run-longest is_ascii_digit (take size text) (drop size text) more behind (take-append-drop size text ∙ e) run.stops digits in
      omega (arith, le, size-is, length-take-le size text run.within)
  longest more behind e (parted part parts digits back) =
      let tails : 46 ∷ (found.digits ++ found.rest) ≡ 46 ∷ (part ++ behind) = sym found.split ∙ back in
      let le = run-longest is_ascii_digit found.digits found.rest part behind (ap (drop 1) tails) found.stops digits.1 in
      omega (arith, le, size-is, found.is, ap length parts, length-append (take size text) (46 ∷ part), length-take-le size text run.within)

  pub decimal-token : (name : List ℕ) → name ≡ chars (take (size + fraction) text) → IsTokenOf text (record { kind = k.Decimal name; size = size + fraction })
  unfolding bytes
  decimal-token name named =
      let front : take (size + fraction) text ≡ bytes = ap (λ n. take n text) (sym size-is) ∙ ap (take (length bytes)) split ∙ take-append_seam bytes found.rest in
      let is : bytes ≡ name = sym (chars-IsAscii bytes (all-ascii is_word_character bytes word-ascii words)) ∙ ap chars (sym front) ∙ sym named in
      let token : IsToken (k.Decimal name) bytes found.rest = record {
        spelled = (take size text, found.digits, is, sym is, digits-of text size lead run, found.some);
        ends = never found.rest;
        longest = λ other more behind e spelled. longest more behind (split ∙ e) (form-of other text more behind size lead run (split ∙ e) spelled);
      } in
      subst (λ n. IsTokenOf text (record { kind = k.Decimal name; size = n })) size-is (token-of (k.Decimal name) text bytes found.rest split token)

  pub decimal-cut : IsUtf8 text → IsCharBoundary text (size + fraction)
  unfolding bytes
  decimal-cut u =
      let ends = ends-append (take size text) (46 ∷ found.digits) (ends-more 46 found.digits (ends-all is_ascii_digit found.digits digit-ascii found.some.0 found.some.1)) in
      subst (IsCharBoundary text) size-is (cut-behind text bytes found.rest u split ends)

pub point-splits : (text rest : List ℕ) → pointwise nat_eq (take 1 text) (46 ∷ []) ≡ true → rest ≡ drop 1 text → text ≡ 46 ∷ rest
point-splits [] rest e is = absurd (false≢true e)
point-splits (byte ∷ behind) rest e is =
    let same : byte ∷ [] ≡ 46 ∷ [] = (bytes_eq-Decides (byte ∷ []) (46 ∷ [])).0 e in
    ap (λ l. l ++ behind) same ∙ ap (λ l. 46 ∷ l) (sym is)

-- a point and the digits behind it
pub fraction-found : (text rest : List ℕ) (size : ℕ) → text ≡ 46 ∷ rest → IsRun is_ascii_digit rest size → size ≢ 0 → IsFractionOf text (size + 1)
fraction-found text rest size e run some =
    let is = length-take-le size rest run.within in
    record {
      digits = take size rest;
      rest = drop size rest;
      split = e ∙ ap (λ l. 46 ∷ l) (sym (take-append-drop size rest));
      some = (omega (arith, is, some), run.passes);
      stops = run.stops;
      is = omega (arith, is);
    }

pub fraction-none : (text rest : List ℕ) (size : ℕ) → text ≡ 46 ∷ rest → IsRun is_ascii_digit rest size → size ≡ 0 → HasNoFraction text
fraction-none text rest size e run zero_size digits behind is some =
    let tails : rest ≡ digits ++ behind = ap (drop 1) (sym e ∙ is) in
    let stops : begins_with is_ascii_digit rest ≡ false = subst (λ n. begins_with is_ascii_digit (drop n rest) ≡ false) zero_size run.stops in
    by digits some tails stops
  where
    by : (digits : List ℕ) → IsDigits digits → rest ≡ digits ++ behind → begins_with is_ascii_digit rest ≡ false → ⊥
    by [] some tails stops = omega (arith, some.0)
    by (digit ∷ digits) some tails stops =
        false≢true (sym stops ∙ ap (begins_with is_ascii_digit) tails ∙ (and_parts (is_ascii_digit digit) (list_all is_ascii_digit digits) some.1).0)
