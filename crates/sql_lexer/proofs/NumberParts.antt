-- The number at the front of a text.
use Rattle.std.proofs.Common.{◌≡◌, ◌≤◌, ◌<◌, ◌∷◌, ◌++◌, ◌∙◌, [], ℕ, List, true, false, length, sym, ap, refl, arith, append_assoc, length-append}
use Rattle.std.specs.Char.{is_ascii_digit}
use Rattle.std.specs.List.{list_all}
use Rattle.std.proofs.lemmas.Bool.{and_parts}
use Rattle.sql_lexer.specs.Lexed.{IsToken, Starts}
use Rattle.sql_lexer.specs.Spelling.{IsDigits, IsFormed, spelled}
use Rattle.vtl_lists.specs.Runs.{begins_with}
use Rattle.sql_lexer.specs.declared.token.TokenKind.{TokenKind}
use Rattle.sql_lexer.specs.declared.token.TokenKind.TheVariants as k
use Rattle.sql_lexer.proofs.Leads.{digit, digit-lead, lead_kind, lead_of, starts-lead}
use Rattle.vtl_lists.proofs.Runs.{run-longest, run-same}

lead-digits : (front rest : List ℕ) → 0 < length front → list_all is_ascii_digit front ≡ true → lead_of (front ++ rest) ≡ digit
lead-digits [] rest some all = absurd (omega arith)
lead-digits (c ∷ front) rest some all = digit-lead c (and_parts (is_ascii_digit c) (list_all is_ascii_digit front) all).0

-- digits at the front, and a rest that begins with none
module _ (text whole rest : List ℕ) (split : text ≡ whole ++ rest) (some : 0 < length whole) (all : list_all is_ascii_digit whole ≡ true) (stops : begins_with is_ascii_digit rest ≡ false) where
  -- any token there is the digits or less, or the digits with a fraction
  data Form (behind : List ℕ) : Type 0 where
    short : length rest ≤ length behind → Form behind
    parted : (part : List ℕ) → IsDigits part → rest ≡ 46 ∷ (part ++ behind) → Form behind

  form : (kind : TokenKind) (behind : List ℕ) → Starts text kind behind → Form behind
  form kind behind h = by kind (sym (ap lead_of split ∙ lead-digits whole rest some all) ∙ starts-lead text kind behind h) h.formed (sym split ∙ h.split)
    where
      by : (kind : TokenKind) → digit ≡ lead_kind kind → IsFormed kind → whole ++ rest ≡ spelled kind ++ behind → Form behind
      by (k.Int digits) lead formed e =
          let le = run-longest is_ascii_digit whole rest digits behind e stops formed.1 in
          short (omega (arith, le, ap length e, length-append whole rest, length-append digits behind))
      by (k.Dec number) lead formed e =
          let whole_is = e ∙ ap (λ l. l ++ behind) formed.is ∙ append_assoc formed.whole (46 ∷ formed.part) behind in
          let same = run-same is_ascii_digit whole rest formed.whole (46 ∷ formed.part ++ behind) whole_is all stops formed.before.1 refl in
          parted formed.part formed.behind same.1
      by kind lead formed e = absurd (cc lead)

  pub int-token : ((part behind : List ℕ) → IsDigits part → rest ≡ 46 ∷ (part ++ behind) → ⊥) → IsToken text (k.Int whole) rest
  int-token none = record {
    starts = record { formed = (some, all); split = split };
    longest = λ kind behind starts. by behind (form kind behind starts);
  }
    where
      by : (behind : List ℕ) → Form behind → length rest ≤ length behind
      by behind (short le) = le
      by behind (parted part digits e) = absurd (none part behind digits e)

  pub dec-token : (part left : List ℕ) → rest ≡ 46 ∷ (part ++ left) → IsDigits part → begins_with is_ascii_digit left ≡ false → IsToken text (k.Dec (whole ++ 46 ∷ part)) left
  dec-token part left e digits ends = record {
    starts = record {
      formed = record { whole = whole; part = part; is = refl; before = (some, all); behind = digits };
      split = split ∙ ap (λ l. whole ++ l) e ∙ sym (append_assoc whole (46 ∷ part) left);
    };
    longest = λ kind behind starts. by behind (form kind behind starts);
  }
    where
      by : (behind : List ℕ) → Form behind → length left ≤ length behind
      by behind (short le) = omega (arith, le, ap length e, length-append part left)
      by behind (parted other digits' f) =
          let tails : part ++ left ≡ other ++ behind = (let w = sym e ∙ f in cc w) in
          let le = run-longest is_ascii_digit part left other behind tails ends digits'.1 in
          omega (arith, le, ap length tails, length-append part left, length-append other behind)

-- a point with no digits behind it
pub no-fraction : (text : List ℕ) → begins_with is_ascii_digit text ≡ false → (part behind : List ℕ) → IsDigits part → text ≡ part ++ behind → ⊥
no-fraction text stops [] behind digits e = omega (arith, digits.0)
no-fraction text stops (c ∷ part) behind digits e = let first = (and_parts (is_ascii_digit c) (list_all is_ascii_digit part) digits.1).0 in let no_digit = sym (ap (begins_with is_ascii_digit) e) ∙ stops in cc (first, no_digit)
