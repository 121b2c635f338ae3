-- What stands between two tokens is white space, and keeps them apart.
use Rattle.std.proofs.Common.{◌≡◌, ◌-◌, ◌*◌, ◌∷◌, ◌++◌, ◌∙◌, ◌==◌, ◌||◌, ◌&&◌, ◌⊎◌, [], ℕ, zero, suc, List, Bool, true, false, not, cond, replicate, ap, refl, arith, inl, inr}
use Rattle.std.specs.List.{list_all}
use Rattle.std.proofs.lemmas.Bool.{and_parts, or_left, or_right}
use Rattle.std.proofs.lemmas.Bool.Decides.{nat_tests}
use Rattle.vtl_lists.specs.Runs.{begins_with}
use Rattle.vtl_text.specs.Words.{is_word_character}
use Rattle.vtl_lexer.specs.Gaps.{is_white_space}
use Rattle.vtl_lexer.specs.Pieces.{joins}
use Rattle.vtl_lexer.specs.Spelling.{Spells}
use Rattle.vtl_lexer.specs.declared.token.Sign.TheVariants as s
use Rattle.vtl_lexer.specs.declared.token.TokenKind.{TokenKind}
use Rattle.vtl_lexer.specs.declared.token.TokenKind.TheVariants as k
use Rattle.vtl_format.specs.Calls.{is_call}
use Rattle.vtl_format.specs.Layout.{broken_gap, closes, definition_gap, gap_between, gap_text, is_comma, is_end, is_open_bracket, is_tight, leans_back, leans_on, opens, precedes_rule, space}
use Rattle.vtl_format.specs.declared.gaps.Gap.{Gap}
use Rattle.vtl_format.specs.declared.gaps.Gap.TheVariants as gap
use Rattle.vtl_format.specs.declared.gaps.Style.{Style}
use Rattle.vtl_format.specs.declared.gaps.Style.TheVariants as style

-- ---- bytes that go on no token

abbrev pub is_quiet : ℕ → Bool
is_quiet byte = not (is_word_character byte || (byte == 34 || (byte == 42 || (byte == 45 || (byte == 47 || (byte == 61 || byte == 62))))))

pub quiet-joins : (kind : TokenKind) (byte : ℕ) → is_quiet byte ≡ true → joins kind byte ≡ false
quiet-joins (k.Name word) byte e = grind (arith, nat_tests, e)
quiet-joins (k.Keyword keyword) byte e = grind (arith, nat_tests, e)
quiet-joins (k.QuotedName name) byte e = refl
quiet-joins (k.Integer digits) byte e = grind (arith, nat_tests, e)
quiet-joins (k.Decimal number) byte e = grind (arith, nat_tests, e)
quiet-joins (k.String text) byte e = grind (arith, nat_tests, e)
quiet-joins (k.Sign s.Less) byte e = grind (arith, nat_tests, e)
quiet-joins (k.Sign s.Greater) byte e = grind (arith, nat_tests, e)
quiet-joins (k.Sign s.Colon) byte e = grind (arith, nat_tests, e)
quiet-joins (k.Sign s.Slash) byte e = grind (arith, nat_tests, e)
quiet-joins (k.Sign sign) byte e = refl

-- a token that begins with such a byte
abbrev is_mark : TokenKind → Bool
is_mark kind = leans_back kind || is_open_bracket kind

record Quiet (bytes : List ℕ) : Type 0 where
  byte : ℕ
  rest : List ℕ
  is : bytes ≡ byte ∷ rest
  quiet : is_quiet byte ≡ true

mark-quiet : (kind : TokenKind) (bytes : List ℕ) → is_mark kind ≡ true → Spells kind bytes → Quiet bytes
mark-quiet (k.Sign s.Comma) bytes e spelled = record { byte = 44; rest = []; is = spelled; quiet = refl }
mark-quiet (k.Sign s.Semicolon) bytes e spelled = record { byte = 59; rest = []; is = spelled; quiet = refl }
mark-quiet (k.Sign s.Colon) bytes e spelled = record { byte = 58; rest = []; is = spelled; quiet = refl }
mark-quiet (k.Sign s.CloseBracket) bytes e spelled = record { byte = 41; rest = []; is = spelled; quiet = refl }
mark-quiet (k.Sign s.CloseSquare) bytes e spelled = record { byte = 93; rest = []; is = spelled; quiet = refl }
mark-quiet (k.Sign s.CloseBrace) bytes e spelled = record { byte = 125; rest = []; is = spelled; quiet = refl }
mark-quiet (k.Sign s.OpenSquare) bytes e spelled = record { byte = 91; rest = []; is = spelled; quiet = refl }
mark-quiet (k.Sign s.Hash) bytes e spelled = record { byte = 35; rest = []; is = spelled; quiet = refl }
mark-quiet (k.Sign s.OpenBracket) bytes e spelled = record { byte = 40; rest = []; is = spelled; quiet = refl }
mark-quiet kind bytes e spelled = absurd (cc e)

-- nothing goes on a token behind which nothing stands
leans-joins : (kind : TokenKind) (text : List ℕ) → leans_on kind ≡ true → begins_with (joins kind) text ≡ false
leans-joins kind [] e = refl
leans-joins (k.Sign s.OpenBracket) (byte ∷ text) e = refl
leans-joins (k.Sign s.OpenSquare) (byte ∷ text) e = refl
leans-joins (k.Sign s.OpenBrace) (byte ∷ text) e = refl
leans-joins (k.Sign s.Hash) (byte ∷ text) e = refl
leans-joins kind (byte ∷ text) e = absurd (cc e)

-- ---- the forms of a gap

data GapForm (a b : TokenKind) : Gap → Type 0 where
  none : is_tight a b ≡ true → GapForm a b gap.Nothing
  one : GapForm a b gap.Space
  line : (depth : ℕ) → GapForm a b (gap.Line depth)

space-form : (a b : TokenKind) → GapForm a b (space a b)
space-form a b = by (is_tight a b) refl
  where
    by : (t : Bool) → is_tight a b ≡ t → GapForm a b (cond t gap.Nothing gap.Space)
    by true e = none e
    by false e = one

broken-form : (depth : ℕ) (a b : TokenKind) → GapForm a b (broken_gap depth a b)
broken-form depth a b = by (closes b) (opens a || is_comma a)
  where
    by : (p q : Bool) → GapForm a b (cond p (gap.Line (depth - 1)) (cond q (gap.Line depth) (space a b)))
    by true q = line (depth - 1)
    by false true = line depth
    by false false = space-form a b

definition-form : (a b : TokenKind) → GapForm a b (definition_gap a b)
definition-form a b = by (is_end b) (precedes_rule a)
  where
    by : (p q : Bool) → GapForm a b (cond p (gap.Line 0) (cond q (gap.Line 1) (space a b)))
    by true q = line 0
    by false true = line 1
    by false false = space-form a b

gap-form : (way : Style) (depth : ℕ) (a b : TokenKind) → GapForm a b (gap_between way depth a b)
gap-form style.OneLine depth a b = space-form a b
gap-form style.Broken depth a b = broken-form depth a b
gap-form style.Definition depth a b = definition-form a b

-- ---- white space

spaces-white : (n : ℕ) → list_all is_white_space (replicate n 32) ≡ true
spaces-white zero = refl
spaces-white (suc n) = spaces-white n

pub gap-white : (it : Gap) → list_all is_white_space (gap_text it) ≡ true
gap-white gap.Nothing = refl
gap-white gap.Space = refl
gap-white (gap.Line depth) = spaces-white (2 * depth)

-- ---- apart

tight-parts : (back on call : Bool) → (back || (on || call)) ≡ true → (on ≡ true) ⊎ ((back ≡ true) ⊎ (call ≡ true))
tight-parts true on call e = inr (inl refl)
tight-parts false true call e = inl refl
tight-parts false false call e = inr (inr e)

mark-apart : (a b : TokenKind) (bytes rest : List ℕ) → is_mark b ≡ true → Spells b bytes → begins_with (joins a) (bytes ++ rest) ≡ false
mark-apart a b bytes rest mark spelled =
    let quiet = mark-quiet b bytes mark spelled in
    ap (λ l. begins_with (joins a) (l ++ rest)) quiet.is ∙ quiet-joins a quiet.byte quiet.quiet

tight-apart : (a b : TokenKind) (bytes rest : List ℕ) → is_tight a b ≡ true → Spells b bytes → begins_with (joins a) (bytes ++ rest) ≡ false
tight-apart a b bytes rest tight spelled = by (tight-parts (leans_back b) (leans_on a) (is_open_bracket b && is_call a) tight)
  where
    by : (leans_on a ≡ true) ⊎ ((leans_back b ≡ true) ⊎ ((is_open_bracket b && is_call a) ≡ true)) → begins_with (joins a) (bytes ++ rest) ≡ false
    by (inl on) = leans-joins a (bytes ++ rest) on
    by (inr (inl back)) = mark-apart a b bytes rest (or_left (leans_back b) (is_open_bracket b) back) spelled
    by (inr (inr call)) = mark-apart a b bytes rest (or_right (leans_back b) (is_open_bracket b) (and_parts (is_open_bracket b) (is_call a) call).0) spelled

-- with its gap before it, a token does not go on the one before
pub apart : (way : Style) (depth : ℕ) (a b : TokenKind) (bytes rest : List ℕ) → Spells b bytes → begins_with (joins a) (gap_text (gap_between way depth a b) ++ (bytes ++ rest)) ≡ false
apart way depth a b bytes rest spelled = by (gap_between way depth a b) (gap-form way depth a b)
  where
    by : (it : Gap) → GapForm a b it → begins_with (joins a) (gap_text it ++ (bytes ++ rest)) ≡ false
    by it (none tight) = tight-apart a b bytes rest tight spelled
    by it one = quiet-joins a 32 refl
    by it (line depth) = quiet-joins a 10 refl
