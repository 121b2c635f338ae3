-- A token that no byte behind it goes on is the longest.
use Rattle.std.proofs.Common.{◌≡◌, ◌≤◌, ◌<◌, ◌+◌, ◌∷◌, ◌++◌, ◌∙◌, ◌==◌, ◌||◌, ◌⊎◌, [], ℕ, List, Bool, Option, None, Some, true, false, not, cond, length, take, drop, chars, sym, ap, subst, refl, arith, inl, inr, append_assoc, length-append, eq-eqb}
use Rattle.std.specs.Char.{is_ascii_digit}
use Rattle.std.specs.List.{list_all}
use Rattle.std.proofs.Math.Seq.{take-append_seam, drop-append_seam}
use Rattle.std.proofs.lemmas.Bool.{cases_Bool, false≢true, or_parts}
use Rattle.std.proofs.lemmas.Str.{chars-IsAscii}
use Rattle.vtl_lists.specs.Runs.{begins_with}
use Rattle.vtl_lists.proofs.Runs.{run-longest}
use Rattle.vtl_text.specs.Words.{is_component_name, is_word, is_word_character, quoted}
use Rattle.vtl_lexer.specs.Found.{HasNoFraction, IsFractionOf, IsTokenOf}
use Rattle.vtl_lexer.specs.Leads.{lead_of}
use Rattle.vtl_lexer.specs.Pieces.{joins}
use Rattle.vtl_lexer.specs.Searches.{StandsFirst}
use Rattle.vtl_lexer.specs.Signs.{sign_of_one, sign_of_two}
use Rattle.vtl_lexer.specs.Spelling.{IsDigits, Lacks, Spells, doubled, spelling}
use Rattle.vtl_lexer.specs.Strings.{EndsAt, IsLongestEnd}
use Rattle.vtl_lexer.specs.Tokens.{IsToken, goes_on}
use Rattle.vtl_lexer.specs.declared.lead.Lead.TheVariants.{Letter, Digit, Quote, DoubleQuote, Other}
use Rattle.vtl_lexer.specs.declared.token.Sign.{Sign}
use Rattle.vtl_lexer.specs.declared.token.Sign.TheVariants as s
use Rattle.vtl_lexer.specs.declared.token.TokenKind.{TokenKind}
use Rattle.vtl_lexer.specs.declared.token.TokenKind.TheVariants as k
use Rattle.vtl_lexer.proofs.CutLemmas.{all-ascii, digit-ascii, word-ascii}
use Rattle.vtl_lexer.proofs.GapLemmas.{first_of}
use Rattle.vtl_lexer.proofs.NumberLemmas.{decimal-token, decimal-words, integer-token, never}
use Rattle.vtl_lexer.proofs.QuoteLemmas.{quote-token, string-token}
use Rattle.vtl_lexer.proofs.SearchLemmas.{IsRun}
use Rattle.vtl_lexer.proofs.SignLemmas.{SignForm, one, other-sign, sign-form, two}
use Rattle.vtl_lexer.proofs.SpellingLemmas.{front-lead, lead_kind, name-word, word-characters}
use Rattle.vtl_lexer.proofs.ReservedLemmas.{keyword-word}
use Rattle.vtl_lexer.proofs.StringLemmas.{doubled-other, doubled-quote}
use Rattle.vtl_lexer.proofs.WordLemmas.{letter-kind}

-- ---- what was found at the front of a text

token-here : (kind : TokenKind) (bytes rest : List ℕ) (size : ℕ) → size ≡ length bytes → IsTokenOf (bytes ++ rest) (record { kind = kind; size = size }) → IsToken kind bytes rest
token-here kind bytes rest size is of =
    let front : take size (bytes ++ rest) ≡ bytes = ap (λ n. take n (bytes ++ rest)) is ∙ take-append_seam bytes rest in
    let back : drop size (bytes ++ rest) ≡ rest = ap (λ n. drop n (bytes ++ rest)) is ∙ drop-append_seam bytes rest in
    subst (λ l. IsToken kind l rest) front (subst (IsToken kind (take size (bytes ++ rest))) back of.token)

run-here : (test : ℕ → Bool) (bytes rest : List ℕ) → list_all test bytes ≡ true → begins_with test rest ≡ false → IsRun test (bytes ++ rest) (length bytes)
run-here test bytes rest passes stops = record {
  within = omega (arith, length-append bytes rest);
  passes = subst (λ l. list_all test l ≡ true) (sym (take-append_seam bytes rest)) passes;
  stops = subst (λ l. begins_with test l ≡ false) (sym (drop-append_seam bytes rest)) stops;
}

-- ---- words

word-alone : (kind : TokenKind) (bytes rest : List ℕ) → lead_kind kind ≡ Letter → Spells kind bytes → begins_with is_word_character rest ≡ false → begins_with (goes_on kind) rest ≡ false → IsToken kind bytes rest
word-alone kind bytes rest lead spelled stops ends = record {
  spelled = spelled;
  ends = ends;
  longest = λ other more behind e spells.
      let other_lead : lead_kind other ≡ Letter = sym (front-lead other (bytes ++ rest) more behind e spells) ∙ front-lead kind (bytes ++ rest) bytes rest refl spelled ∙ lead in
      run-longest is_word_character bytes rest more behind e stops (word-characters more (letter-kind other more other_lead spells));
}

-- ---- numbers

no-digit : (rest : List ℕ) → begins_with (λ byte. is_ascii_digit byte || byte == 46) rest ≡ false → begins_with is_ascii_digit rest ≡ false
no-digit [] quiet = refl
no-digit (byte ∷ rest) quiet = (or_parts (is_ascii_digit byte) (byte == 46) quiet).0

no-point : (rest more : List ℕ) → begins_with (λ byte. is_ascii_digit byte || byte == 46) rest ≡ false → rest ≡ 46 ∷ more → ⊥
no-point [] more quiet e = cc e
no-point (byte ∷ rest) more quiet e = let heads : byte ≡ 46 = cc e in false≢true (sym (or_parts (is_ascii_digit byte) (byte == 46) quiet).1 ∙ eq-eqb byte 46 heads)

digits-chars : (bytes : List ℕ) → list_all is_ascii_digit bytes ≡ true → chars bytes ≡ bytes
digits-chars bytes digits = chars-IsAscii bytes (all-ascii is_ascii_digit bytes digit-ascii digits)

integer-alone : (digits rest : List ℕ) → IsDigits digits → begins_with (λ byte. is_ascii_digit byte || byte == 46) rest ≡ false → IsToken (k.Integer digits) digits rest
integer-alone digits rest some quiet =
    let text = digits ++ rest in
    let lead : lead_of text ≡ Digit = front-lead (k.Integer digits) text digits rest refl (refl, some) in
    let run = run-here is_ascii_digit digits rest some.1 (no-digit rest quiet) in
    let none : HasNoFraction (drop (length digits) text) = λ part behind e is. no-point rest (part ++ behind) quiet (sym (drop-append_seam digits rest) ∙ e) in
    token-here (k.Integer digits) digits rest (length digits) refl
    (integer-token text digits (length digits) lead run none (sym (digits-chars digits some.1) ∙ ap chars (sym (take-append_seam digits rest))))

decimal-alone : (whole part rest : List ℕ) → IsDigits whole → IsDigits part → begins_with is_ascii_digit rest ≡ false → IsToken (k.Decimal (whole ++ 46 ∷ part)) (whole ++ 46 ∷ part) rest
decimal-alone whole part rest d f quiet =
    let number = whole ++ 46 ∷ part in
    let tail = 46 ∷ (part ++ rest) in
    let text = whole ++ tail in
    let split : text ≡ number ++ rest = sym (append_assoc whole (46 ∷ part) rest) in
    let lead : lead_of text ≡ Digit = front-lead (k.Decimal number) text number rest split (whole, part, refl, refl, d, f) in
    let run = run-here is_ascii_digit whole tail d.1 refl in
    let found : IsFractionOf (drop (length whole) text) (length part + 1) = record {
      digits = part;
      rest = rest;
      split = drop-append_seam whole tail;
      some = f;
      stops = quiet;
      is = refl;
    } in
    let size : length whole + (length part + 1) ≡ length number = omega (arith, length-append whole (46 ∷ part)) in
    let front : take (length whole + (length part + 1)) text ≡ number = ap (λ n. take n text) size ∙ ap (take (length number)) split ∙ take-append_seam number rest in
    let plain : chars number ≡ number = chars-IsAscii number (all-ascii is_word_character number word-ascii (decimal-words whole part d.1 f.1)) in
    let token = decimal-token text (length whole) (length part + 1) lead run found number (sym plain ∙ ap chars (sym front)) in
    token-here (k.Decimal number) number rest (length whole + (length part + 1)) size
    (subst (λ l. IsTokenOf l (record { kind = k.Decimal number; size = length whole + (length part + 1) })) split token)

-- ---- quoted names and strings

quoted-alone : (name inner rest : List ℕ) → Lacks 39 inner → name ≡ chars inner → is_component_name name ≡ true → IsToken (k.QuotedName name) (quoted inner) rest
quoted-alone name inner rest lacks named fits =
    let bytes = quoted inner in
    let text = bytes ++ rest in
    let tail : drop 1 text ≡ inner ++ 39 ∷ rest = append_assoc inner (39 ∷ []) rest in
    let lead : lead_of text ≡ Quote = front-lead (k.QuotedName name) text bytes rest refl (inner, refl, lacks, named, fits) in
    let front : take (length inner) (drop 1 text) ≡ inner = ap (take (length inner)) tail ∙ take-append_seam inner (39 ∷ rest) in
    let back : drop (length inner + 1) (drop 1 text) ≡ rest = by tail in
    let found : StandsFirst 39 (drop 1 text) (length inner) = record {
      within = omega (arith, ap length tail, length-append inner (39 ∷ rest));
      lacks = subst (Lacks 39) (sym front) lacks;
      split = tail ∙ ap (λ l. l ++ 39 ∷ rest) (sym front) ∙ ap (λ l. take (length inner) (drop 1 text) ++ 39 ∷ l) (sym back);
    } in
    let fits' : is_component_name (chars (take (length inner) (drop 1 text))) ≡ true = ap (λ l. is_component_name (chars l)) front ∙ ap is_component_name (sym named) ∙ fits in
    token-here (k.QuotedName name) bytes rest (length inner + 2) (omega (arith, length-append inner (39 ∷ [])))
    (quote-token text name (length inner) lead found fits' (named ∙ ap chars (sym front)))
  where
    by : drop 1 (quoted inner ++ rest) ≡ inner ++ 39 ∷ rest → drop (length inner + 1) (drop 1 (quoted inner ++ rest)) ≡ rest
    by tail =
        let longer : length (inner ++ 39 ∷ []) ≡ length inner + 1 = length-append inner (39 ∷ []) in
        ap (λ n. drop n (drop 1 (quoted inner ++ rest))) (sym longer) ∙ drop-append_seam (inner ++ 39 ∷ []) rest

-- the first `"` that is not doubled ends a string
closes-first : (xs r ys t : List ℕ) → doubled xs ++ 34 ∷ r ≡ doubled ys ++ 34 ∷ t → begins_with (λ byte. byte == 34) r ≡ false → length (doubled ys) ≤ length (doubled xs)
closes-first xs r [] t e quiet = omega arith
closes-first [] r (y ∷ ys) t e quiet = elim (cases_Bool (y == 34)) [
  | inl same ↦
      let whole = e ∙ ap (λ l. l ++ 34 ∷ t) (doubled-quote y ys same) in
      let tails : r ≡ 34 ∷ (doubled ys ++ 34 ∷ t) = cc whole in
      absurd (false≢true (sym quiet ∙ ap (begins_with (λ byte. byte == 34)) tails))
  | inr apart ↦
      let whole = e ∙ ap (λ l. l ++ 34 ∷ t) (doubled-other y ys apart) in
      let heads : y ≡ 34 = cc whole in
      absurd (false≢true (sym apart ∙ eq-eqb y 34 heads))
]
closes-first (x ∷ xs) r (y ∷ ys) t e quiet = by (cases_Bool (x == 34)) (cases_Bool (y == 34)) (λ tails. closes-first xs r ys t tails quiet)
  where
    by : ((x == 34) ≡ true) ⊎ ((x == 34) ≡ false) → ((y == 34) ≡ true) ⊎ ((y == 34) ≡ false) → (doubled xs ++ 34 ∷ r ≡ doubled ys ++ 34 ∷ t → length (doubled ys) ≤ length (doubled xs))
        → length (doubled (y ∷ ys)) ≤ length (doubled (x ∷ xs))
    by (inl p) (inl q) tail =
        let whole = ap (λ l. l ++ 34 ∷ r) (sym (doubled-quote x xs p)) ∙ e ∙ ap (λ l. l ++ 34 ∷ t) (doubled-quote y ys q) in
        let le = tail (cc whole) in
        omega (arith, le, ap length (doubled-quote x xs p), ap length (doubled-quote y ys q))
    by (inr p) (inr q) tail =
        let whole = ap (λ l. l ++ 34 ∷ r) (sym (doubled-other x xs p)) ∙ e ∙ ap (λ l. l ++ 34 ∷ t) (doubled-other y ys q) in
        let le = tail (cc whole) in
        omega (arith, le, ap length (doubled-other x xs p), ap length (doubled-other y ys q))
    by (inl p) (inr q) tail =
        let whole = ap (λ l. l ++ 34 ∷ r) (sym (doubled-quote x xs p)) ∙ e ∙ ap (λ l. l ++ 34 ∷ t) (doubled-other y ys q) in
        let heads : y ≡ 34 = cc whole in
        absurd (false≢true (sym q ∙ eq-eqb y 34 heads))
    by (inr p) (inl q) tail =
        let whole = ap (λ l. l ++ 34 ∷ r) (sym (doubled-other x xs p)) ∙ e ∙ ap (λ l. l ++ 34 ∷ t) (doubled-quote y ys q) in
        let heads : x ≡ 34 = cc whole in
        absurd (false≢true (sym p ∙ eq-eqb x 34 heads))

string-alone : (held inner rest : List ℕ) → held ≡ chars inner → begins_with (λ byte. byte == 34) rest ≡ false → IsToken (k.String held) (34 ∷ (doubled inner ++ 34 ∷ [])) rest
string-alone held inner rest named quiet =
    let bytes = 34 ∷ (doubled inner ++ 34 ∷ []) in
    let text = bytes ++ rest in
    let tail : drop 1 text ≡ doubled inner ++ 34 ∷ rest = append_assoc (doubled inner) (34 ∷ []) rest in
    let lead : lead_of text ≡ DoubleQuote = front-lead (k.String held) text bytes rest refl (inner, refl, named) in
    let found : IsLongestEnd (drop 1 text) (length (doubled inner)) = record {
      ends = record { inner = inner; rest = rest; split = tail; is = refl };
      longest = λ other ends. subst (λ n. n ≤ length (doubled inner)) (sym ends.is) (closes-first inner rest ends.inner ends.rest (sym tail ∙ ends.split) quiet);
    } in
    token-here (k.String held) bytes rest (length (doubled inner) + 2) (omega (arith, length-append (doubled inner) (34 ∷ [])))
    (string-token text held (length (doubled inner)) lead found named)

-- ---- signs

less-alone : (byte : ℕ) → (byte == 45 || (byte == 62 || byte == 61)) ≡ false → sign_of_two 60 byte ≡ None
less-alone byte e =
    let first = or_parts (byte == 45) _ e in
    let second = or_parts (byte == 62) (byte == 61) first.1 in
    rw (first.0, second.0, second.1) refl

equal-alone : (first byte : ℕ) → (byte == 61) ≡ false → sign_of_two 62 byte ≡ None
equal-alone first byte e = rw e refl

colon-alone : (byte : ℕ) → (byte == 61) ≡ false → sign_of_two 58 byte ≡ None
colon-alone byte e = rw e refl

-- a sign of one byte begins no sign of two with a byte that does not join it
two-none : (sign : Sign) (byte : ℕ) → length (spelling sign) ≡ 1 → joins (k.Sign sign) byte ≡ false → sign_of_two (first_of (spelling sign)) byte ≡ None
two-none s.Assign byte size quiet = absurd (omega (arith, size))
two-none s.Persist byte size quiet = absurd (omega (arith, size))
two-none s.NotEqual byte size quiet = absurd (omega (arith, size))
two-none s.LessOrEqual byte size quiet = absurd (omega (arith, size))
two-none s.GreaterOrEqual byte size quiet = absurd (omega (arith, size))
two-none s.Concat byte size quiet = absurd (omega (arith, size))
two-none s.Less byte size quiet = less-alone byte quiet
two-none s.Greater byte size quiet = equal-alone 62 byte quiet
two-none s.Colon byte size quiet = colon-alone byte quiet
two-none _ byte size quiet = refl

sign-longest : (sign it : Sign) (rest behind : List ℕ) → begins_with (joins (k.Sign sign)) rest ≡ false → spelling sign ++ rest ≡ spelling it ++ behind → SignForm sign → SignForm it
    → length (spelling it) ≤ length (spelling sign)
sign-longest sign it rest behind quiet e (two a b f g) (one c h i) = omega (arith, ap length f, ap length h)
sign-longest sign it rest behind quiet e (two a b f g) (two c d h i) = omega (arith, ap length f, ap length h)
sign-longest sign it rest behind quiet e (one a f g) (one c h i) = omega (arith, ap length f, ap length h)
sign-longest sign it [] behind quiet e (one a f g) (two c d h i) =
    let sizes : length (spelling sign ++ []) ≡ length (spelling it ++ behind) = ap length e in
    absurd (omega (arith, sizes, length-append (spelling sign) [], length-append (spelling it) behind, ap length f, ap length h))
sign-longest sign it (byte ∷ rest) behind quiet e (one a f g) (two c d h i) =
    let whole : a ∷ byte ∷ rest ≡ c ∷ d ∷ behind = sym (ap (λ l. l ++ byte ∷ rest) f) ∙ e ∙ ap (λ l. l ++ behind) h in
    let first : a ≡ c = cc whole in
    let second : byte ≡ d = cc whole in
    let none : sign_of_two a byte ≡ None = ap (λ l. sign_of_two (first_of l) byte) (sym f) ∙ two-none sign byte (ap length f) quiet in
    let some : sign_of_two a byte ≡ Some it = ap (λ x. sign_of_two x byte) first ∙ ap (sign_of_two c) second ∙ i in
    absurd (cc (none, some))

sign-stops : (sign : Sign) (rest : List ℕ) → begins_with (joins (k.Sign sign)) rest ≡ false → begins_with (goes_on (k.Sign sign)) rest ≡ false
sign-stops s.Slash rest quiet = quiet
sign-stops s.Assign rest quiet = never rest
sign-stops sign rest quiet = never rest

sign-alone : (sign : Sign) (rest : List ℕ) → begins_with (joins (k.Sign sign)) rest ≡ false → IsToken (k.Sign sign) (spelling sign) rest
sign-alone sign rest quiet = record {
  spelled = refl;
  ends = sign-stops sign rest quiet;
  longest = λ other more behind e spells.
      let lead : lead_of (spelling sign ++ rest) ≡ Other = front-lead (k.Sign sign) (spelling sign ++ rest) (spelling sign) rest refl refl in
      let (it, same, spelled) = other-sign other (spelling sign ++ rest) more behind lead e spells in
      subst (λ l. length l ≤ length (spelling sign)) (sym spelled)
      (sign-longest sign it rest behind quiet (e ∙ ap (λ l. l ++ behind) spelled) (sign-form sign) (sign-form it));
}

-- ---- each kind

pub alone : (kind : TokenKind) (bytes rest : List ℕ) → Spells kind bytes → begins_with (joins kind) rest ≡ false → IsToken kind bytes rest
alone (k.Name word) bytes rest spelled quiet = word-alone (k.Name word) bytes rest refl spelled quiet quiet
alone (k.Keyword keyword) bytes rest spelled quiet = word-alone (k.Keyword keyword) bytes rest refl spelled quiet quiet
alone (k.QuotedName name) bytes rest spelled quiet =
    let (inner, is, lacks, named, fits) = spelled in
    subst (λ l. IsToken (k.QuotedName name) l rest) (sym is) (quoted-alone name inner rest lacks named fits)
alone (k.Integer digits) bytes rest spelled quiet = subst (λ l. IsToken (k.Integer digits) l rest) (sym spelled.0) (integer-alone digits rest spelled.1 quiet)
alone (k.Decimal number) bytes rest spelled quiet =
    let (whole, part, is, parts, d, f) = spelled in
    subst (λ l. IsToken (k.Decimal l) bytes rest) (sym parts)
    (subst (λ l. IsToken (k.Decimal (whole ++ 46 ∷ part)) l rest) (sym (is ∙ parts)) (decimal-alone whole part rest d f quiet))
alone (k.String held) bytes rest spelled quiet =
    let (inner, is, named) = spelled in
    subst (λ l. IsToken (k.String held) l rest) (sym is) (string-alone held inner rest named quiet)
alone (k.Sign sign) bytes rest spelled quiet = subst (λ l. IsToken (k.Sign sign) l rest) (sym spelled) (sign-alone sign rest quiet)
