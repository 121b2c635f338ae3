-- Which sign starts at the front of a text.
use Rattle.std.proofs.Common.{◌≡◌, ◌≤◌, ◌∷◌, ◌++◌, ◌∙◌, ◌&&◌, ◌||◌, ◌==◌, [], ℕ, List, Bool, Option, Some, None, true, false, cond, length, sym, ap, subst, refl, arith, eqb-true}
use Rattle.std.specs.Option.{unwrap_or}
use Rattle.std.specs.List.{slice_get}
use Rattle.std.proofs.lemmas.Bool.{and_parts, false≢true}
use Rattle.vtl_lexer.specs.Found.{IsTokenOf}
use Rattle.vtl_lexer.specs.Leads.{lead_of}
use Rattle.vtl_lexer.specs.Signs.{begins_comment, sign_of_one, sign_of_two}
use Rattle.vtl_lexer.specs.Spelling.{Spells, spelling}
use Rattle.vtl_lists.specs.Runs.{begins_with}
use Rattle.vtl_lexer.specs.Tokens.{NoToken, goes_on}
use Rattle.vtl_lexer.specs.declared.lead.Lead.TheVariants.{Other}
use Rattle.vtl_lexer.specs.declared.token.Sign.{Sign}
use Rattle.vtl_lexer.specs.declared.token.Sign.TheVariants as s
use Rattle.vtl_lexer.specs.declared.token.TokenKind.{TokenKind}
use Rattle.vtl_lexer.specs.declared.token.TokenKind.TheVariants as k
use Rattle.vtl_lexer.proofs.GapLemmas.{comment, first_of, second_of, token-no_opening}
use Rattle.vtl_lexer.proofs.SpellingLemmas.{front-lead, lead_kind, sign_of, sign_of-spelling}
use Rattle.vtl_lexer.proofs.NumberLemmas.{never}

-- one choice of many
choose : (b : Bool) (sign found : Sign) (rest : Option Sign) (P : Sign → Type 0) → (b ≡ true → P sign) → (rest ≡ Some found → P found) → cond b (Some sign) rest ≡ Some found → P found
choose true sign found rest P here later e = let same : sign ≡ found = cc e in subst P same (here refl)
choose false sign found rest P here later e = later e

is-one : (byte code : ℕ) → (byte == code) ≡ true → code ∷ [] ≡ byte ∷ []
is-one byte code e = ap (λ b. b ∷ []) (sym (eqb-true byte code e))

is-two : (first second a b : ℕ) → (first == a && second == b) ≡ true → a ∷ b ∷ [] ≡ first ∷ second ∷ []
is-two first second a b e =
    let (p, q) = and_parts (first == a) (second == b) e in
    ap (λ x. x ∷ b ∷ []) (sym (eqb-true first a p)) ∙ ap (λ x. first ∷ x ∷ []) (sym (eqb-true second b q))

abbrev IsTwo : ℕ → ℕ → Sign → Type 0
IsTwo first second sign = spelling sign ≡ first ∷ second ∷ []

abbrev IsOne : ℕ → Sign → Type 0
IsOne byte sign = spelling sign ≡ byte ∷ []

two-spelled : (first second : ℕ) (sign : Sign) → sign_of_two first second ≡ Some sign → spelling sign ≡ first ∷ second ∷ []
two-spelled first second sign =
    choose _ s.Assign sign _ (IsTwo first second) (is-two first second 58 61)
    (choose _ s.Persist sign _ (IsTwo first second) (is-two first second 60 45)
    (choose _ s.NotEqual sign _ (IsTwo first second) (is-two first second 60 62)
    (choose _ s.LessOrEqual sign _ (IsTwo first second) (is-two first second 60 61)
    (choose _ s.GreaterOrEqual sign _ (IsTwo first second) (is-two first second 62 61)
    (choose _ s.Concat sign _ (IsTwo first second) (is-two first second 124 124) (λ e. absurd (cc e)))))))

one-spelled : (byte : ℕ) (sign : Sign) → sign_of_one byte ≡ Some sign → spelling sign ≡ byte ∷ []
one-spelled byte sign =
    choose _ s.Less sign _ (IsOne byte) (is-one byte 60)
    (choose _ s.Greater sign _ (IsOne byte) (is-one byte 62)
    (choose _ s.Equal sign _ (IsOne byte) (is-one byte 61)
    (choose _ s.Plus sign _ (IsOne byte) (is-one byte 43)
    (choose _ s.Minus sign _ (IsOne byte) (is-one byte 45)
    (choose _ s.Star sign _ (IsOne byte) (is-one byte 42)
    (choose _ s.Slash sign _ (IsOne byte) (is-one byte 47)
    (choose _ s.OpenBracket sign _ (IsOne byte) (is-one byte 40)
    (choose _ s.CloseBracket sign _ (IsOne byte) (is-one byte 41)
    (choose _ s.OpenSquare sign _ (IsOne byte) (is-one byte 91)
    (choose _ s.CloseSquare sign _ (IsOne byte) (is-one byte 93)
    (choose _ s.OpenBrace sign _ (IsOne byte) (is-one byte 123)
    (choose _ s.CloseBrace sign _ (IsOne byte) (is-one byte 125)
    (choose _ s.Comma sign _ (IsOne byte) (is-one byte 44)
    (choose _ s.Semicolon sign _ (IsOne byte) (is-one byte 59)
    (choose _ s.Colon sign _ (IsOne byte) (is-one byte 58)
    (choose _ s.Hash sign _ (IsOne byte) (is-one byte 35) (λ e. absurd (cc e))))))))))))))))))

-- a sign has one byte or two
pub data SignForm (sign : Sign) : Type 0 where
  one : (byte : ℕ) → spelling sign ≡ byte ∷ [] → sign_of_one byte ≡ Some sign → SignForm sign
  two : (first second : ℕ) → spelling sign ≡ first ∷ second ∷ [] → sign_of_two first second ≡ Some sign → SignForm sign

pub sign-form : (sign : Sign) → SignForm sign
sign-form sign = by (spelling sign) refl (sign_of-spelling sign)
  where
    by : (bytes : List ℕ) → spelling sign ≡ bytes → sign_of bytes ≡ Some sign → SignForm sign
    by [] e f = absurd (cc f)
    by (byte ∷ []) e f = one byte e f
    by (first ∷ second ∷ []) e f = two first second e f
    by (first ∷ second ∷ third ∷ rest) e f = absurd (cc f)

form-short : (sign : Sign) → SignForm sign → length (spelling sign) ≤ 2
form-short sign (one byte e f) = omega (arith, ap length e)
form-short sign (two first second e f) = omega (arith, ap length e)

-- only a sign starts with such a byte
other-kind : (kind : TokenKind) → lead_kind kind ≡ Other → (sign : Sign) × (kind ≡ k.Sign sign)
other-kind (k.Sign sign) e = (sign, refl)
other-kind kind e = absurd (cc e)

pub other-sign : (kind : TokenKind) (text bytes rest : List ℕ) → lead_of text ≡ Other → text ≡ bytes ++ rest → Spells kind bytes → (sign : Sign) × (kind ≡ k.Sign sign) × (bytes ≡ spelling sign)
other-sign kind text bytes rest lead e spelled =
    let (sign, is) = other-kind kind (sym (front-lead kind text bytes rest e spelled) ∙ lead) in
    (sign, is, subst (λ kind. Spells kind bytes) is spelled)

sign-ends : (sign : Sign) (rest : List ℕ) → (sign ≡ s.Slash → begins_with (λ byte. byte == 42 || byte == 47) rest ≡ false) → begins_with (goes_on (k.Sign sign)) rest ≡ false
sign-ends s.Slash rest h = h refl
sign-ends s.Assign rest h = never rest
sign-ends sign rest h = never rest

no-space : (sign : Sign) → (second_of (spelling sign) == 32) ≡ false
no-space s.Assign = refl
no-space _ = refl

-- a sign of two bytes
pub two-found : (text : List ℕ) (first second : ℕ) (sign : Sign) → lead_of text ≡ Other → Some first ≡ slice_get text 0 → second ≡ unwrap_or (slice_get text 1) 32
    → sign_of_two first second ≡ Some sign → IsTokenOf text (record { kind = k.Sign sign; size = 2 })
two-found [] first second sign lead e f found = absurd (cc e)
two-found (a ∷ []) first second sign lead e f found =
    absurd (false≢true (sym (no-space sign) ∙ ap (λ l. second_of l == 32) (two-spelled first second sign found) ∙ ap (λ b. b == 32) f))
two-found (a ∷ b ∷ rest) first second sign lead e f found =
    let same : first ≡ a = cc e in
    let bytes : a ∷ b ∷ [] ≡ spelling sign = ap (λ x. x ∷ b ∷ []) (sym same) ∙ ap (λ x. first ∷ x ∷ []) (sym f) ∙ sym (two-spelled first second sign found) in
    record {
      within = omega arith;
      token = record {
        spelled = bytes;
        ends = sign-ends sign rest (λ slash. absurd (omega (arith, ap length (bytes ∙ ap spelling slash))));
        longest = λ other more behind is spells.
            let (it, same', spelled) = other-sign other (a ∷ b ∷ rest) more behind lead is spells in
            omega (arith, ap length spelled, form-short it (sign-form it));
      };
    }

-- no sign of two bytes starts where they are none
none-two : (text : List ℕ) (first second : ℕ) (sign : Sign) (behind : List ℕ) → Some first ≡ slice_get text 0 → second ≡ unwrap_or (slice_get text 1) 32
    → sign_of_two first second ≡ None → text ≡ spelling sign ++ behind → SignForm sign → (byte : ℕ) × (spelling sign ≡ byte ∷ []) × (byte ≡ first) × (sign_of_one first ≡ Some sign)
none-two text first second sign behind e f none is (one byte g h) =
    let whole : text ≡ byte ∷ behind = is ∙ ap (λ l. l ++ behind) g in
    let heads : Some first ≡ Some byte = e ∙ ap (λ l. slice_get l 0) whole in
    let same : byte ≡ first = cc heads in
    (byte, g, same, ap sign_of_one (sym same) ∙ h)
none-two text first second sign behind e f none is (two a b g h) =
    let whole : text ≡ a ∷ b ∷ behind = is ∙ ap (λ l. l ++ behind) g in
    let heads : Some first ≡ Some a = e ∙ ap (λ l. slice_get l 0) whole in
    let same : first ≡ a = cc heads in
    let seconds : second ≡ b = f ∙ ap (λ l. unwrap_or (slice_get l 1) 32) whole in
    let both : sign_of_two first second ≡ Some sign = ap (λ x. sign_of_two x second) same ∙ ap (sign_of_two a) seconds ∙ h in
    absurd (cc (none, both))

-- a sign of one byte
pub one-found : (text : List ℕ) (first second : ℕ) (sign : Sign) → lead_of text ≡ Other → Some first ≡ slice_get text 0 → second ≡ unwrap_or (slice_get text 1) 32
    → sign_of_two first second ≡ None → begins_comment first second ≡ false → sign_of_one first ≡ Some sign → IsTokenOf text (record { kind = k.Sign sign; size = 1 })
one-found [] first second sign lead e f none plain found = absurd (cc e)
one-found (a ∷ rest) first second sign lead e f none plain found =
    let same : first ≡ a = cc e in
    let bytes : a ∷ [] ≡ spelling sign = ap (λ x. x ∷ []) (sym same) ∙ sym (one-spelled first sign found) in
    record {
      within = omega arith;
      token = record {
        spelled = bytes;
        ends = sign-ends sign rest (λ slash.
            let code : a ∷ [] ≡ 47 ∷ [] = bytes ∙ ap spelling slash in
            after rest f (ap (λ b. b == 47 && (second == 42 || second == 47)) (sym (same ∙ ap first_of code)) ∙ plain));
        longest = λ other more behind is spells.
            let (it, same', spelled) = other-sign other (a ∷ rest) more behind lead is spells in
            let (byte, only, _, _) = none-two (a ∷ rest) first second it behind e f none (is ∙ ap (λ l. l ++ behind) spelled) (sign-form it) in
            omega (arith, ap length spelled, ap length only);
      };
    }
  where
    after : (rest : List ℕ) → second ≡ unwrap_or (slice_get (a ∷ rest) 1) 32 → (second == 42 || second == 47) ≡ false → begins_with (λ byte. byte == 42 || byte == 47) rest ≡ false
    after [] f plain = refl
    after (b ∷ rest) f plain = ap (λ x. x == 42 || x == 47) (sym f) ∙ plain

-- no sign
pub sign-none : (text : List ℕ) (first second : ℕ) → lead_of text ≡ Other → Some first ≡ slice_get text 0 → second ≡ unwrap_or (slice_get text 1) 32
    → sign_of_two first second ≡ None → sign_of_one first ≡ None → NoToken text
sign-none text first second lead e f none none' kind bytes rest is token =
    let (it, same, spelled) = other-sign kind text bytes rest lead is token.spelled in
    let (byte, only, _, found) = none-two text first second it rest e f none (is ∙ ap (λ l. l ++ rest) spelled) (sign-form it) in
    absurd (cc (none', found))

-- the start of a comment
pub comment-none : (text : List ℕ) (first second : ℕ) → Some first ≡ slice_get text 0 → second ≡ unwrap_or (slice_get text 1) 32
    → begins_comment first second ≡ true → NoToken text
comment-none [] first second e f opens = absurd (cc e)
comment-none (a ∷ []) first second e f opens =
    let (_, star) = and_parts (first == 47) (second == 42 || second == 47) opens in
    absurd (false≢true (ap (λ x. x == 42 || x == 47) (sym f) ∙ star))
comment-none (a ∷ b ∷ rest) first second e f opens =
    let (slash, star) = and_parts (first == 47) (second == 42 || second == 47) opens in
    let same : first ≡ a = cc e in
    let whole : a ∷ b ∷ rest ≡ 47 ∷ b ∷ rest = ap (λ x. x ∷ b ∷ rest) (sym same ∙ eqb-true first 47 slash) in
    let opening = comment b rest whole (ap (λ x. x == 42 || x == 47) (sym f) ∙ star) in
    λ kind bytes behind is token. token-no_opening kind (a ∷ b ∷ rest) bytes behind is token opening
