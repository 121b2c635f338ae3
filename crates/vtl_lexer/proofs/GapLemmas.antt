-- At the front of a text stands one gap, or a token, and not both.
use Rattle.std.proofs.Common.{◌≡◌, ◌≢◌, ◌∷◌, ◌++◌, ◌∙◌, ◌||◌, ◌==◌, [], ℕ, List, true, false, not, length, drop, codes, sym, ap, refl, arith, append_assoc}
use Rattle.std.specs.Char.{is_ascii_alphabetic, is_ascii_digit}
use Rattle.std.proofs.lemmas.Bool.{false≢true}
use Rattle.std.proofs.lemmas.Bool.Decides.{nat_tests}
use Rattle.vtl_lexer.specs.Gaps.{HasNoEnd, IsGap, block_comment, is_white_space, line_comment, white_space}
use Rattle.vtl_lexer.specs.Spelling.{Lacks, Spells, spelling}
use Rattle.vtl_lists.specs.Runs.{begins_with}
use Rattle.vtl_lexer.specs.Tokens.{IsToken, goes_on}
use Rattle.vtl_lexer.specs.declared.token.Sign.{Sign}
use Rattle.vtl_lexer.specs.declared.token.Sign.TheVariants as s
use Rattle.vtl_lexer.specs.declared.token.TokenKind.{TokenKind}
use Rattle.vtl_lexer.specs.declared.token.TokenKind.TheVariants as k
use Rattle.vtl_lists.proofs.Runs.{front-same, run-same}
use Rattle.vtl_lexer.specs.Leads.{lead_byte_of, lead_of}
use Rattle.vtl_lexer.specs.declared.lead.Lead.TheVariants.{Other}
use Rattle.vtl_lexer.proofs.SpellingLemmas.{front-lead, lead_kind}

pub gap-some : (bytes rest : List ℕ) → IsGap bytes rest → bytes ≢ []
gap-some bytes rest (white_space byte is white) e = cc (is, e)
gap-some bytes rest (line_comment inner is lacks stops) e = cc (is, e)
gap-some bytes rest (block_comment inner is none) e = cc (is, e)

-- the second byte of a list
abbrev pub second_of : List ℕ → ℕ
second_of [] = 0
second_of (first ∷ []) = 0
second_of (first ∷ second ∷ rest) = second

abbrev pub first_of : List ℕ → ℕ
first_of [] = 0
first_of (first ∷ rest) = first

slash-no_star : ◌≡◌ {A = ℕ} 47 42 → ⊥
slash-no_star e = omega arith

-- no comment's body goes on behind its first end
no-early : (ys rest behind : List ℕ) → 42 ∷ 47 ∷ rest ≡ ys ++ 42 ∷ 47 ∷ behind → HasNoEnd ys → ys ≡ []
no-early [] rest behind e g = refl
no-early (y ∷ []) rest behind e g = absurd (slash-no_star (ap second_of e))
no-early (y ∷ z ∷ ys) rest behind e g =
    let first : y ≡ 42 = sym (ap first_of e) in
    let second : z ≡ 47 = sym (ap second_of e) in
    absurd (g [] ys (ap (λ b. b ∷ z ∷ ys) first ∙ ap (λ b. 42 ∷ b ∷ ys) second))

no_end-tail : (x : ℕ) (xs : List ℕ) → HasNoEnd (x ∷ xs) → HasNoEnd xs
no_end-tail x xs f before behind is = f (x ∷ before) behind (ap (λ l. x ∷ l) is)

-- a comment's body to the first end
block-same : (xs rest ys behind : List ℕ) → xs ++ 42 ∷ 47 ∷ rest ≡ ys ++ 42 ∷ 47 ∷ behind → HasNoEnd xs → HasNoEnd ys → xs ≡ ys
block-same [] rest ys behind e f g = sym (no-early ys rest behind e g)
block-same (x ∷ xs) rest [] behind e f g = no-early (x ∷ xs) behind rest (sym e) f
block-same (x ∷ xs) rest (y ∷ ys) behind e f g =
    let heads : x ≡ y = ap first_of e in
    let tails : xs ++ 42 ∷ 47 ∷ rest ≡ ys ++ 42 ∷ 47 ∷ behind = ap (drop 1) e in
    let more = block-same xs rest ys behind tails (no_end-tail x xs f) (no_end-tail y ys g) in
    ap (λ b. b ∷ xs) heads ∙ ap (λ l. y ∷ l) more

slash-no_white : (byte : ℕ) → is_white_space byte ≡ true → byte ≡ 47 → ⊥
slash-no_white byte white e = false≢true (ap is_white_space (sym e) ∙ white)

-- how a comment begins
IsSlashed : List ℕ → Type 0
IsSlashed bytes = (rest : List ℕ) → first_of (bytes ++ rest) ≡ 47

white-slashed : (bytes rest more behind : List ℕ) (byte : ℕ) → bytes ++ rest ≡ more ++ behind → bytes ≡ byte ∷ [] → is_white_space byte ≡ true → IsSlashed more → ⊥
unfolding IsSlashed
white-slashed bytes rest more behind byte e is white slashed =
    slash-no_white byte white (ap (λ l. first_of (l ++ rest)) (sym is) ∙ ap first_of e ∙ slashed behind)

line-slashed : (bytes inner : List ℕ) → bytes ≡ codes "//" ++ inner → IsSlashed bytes
unfolding IsSlashed
line-slashed bytes inner is rest = ap (λ l. first_of (l ++ rest)) is

block-slashed : (bytes inner : List ℕ) → bytes ≡ codes "/*" ++ (inner ++ codes "*/") → IsSlashed bytes
unfolding IsSlashed
block-slashed bytes inner is rest = ap (λ l. first_of (l ++ rest)) is

line-no_block : (bytes rest more behind inner inner' : List ℕ) → bytes ++ rest ≡ more ++ behind → bytes ≡ codes "//" ++ inner → more ≡ codes "/*" ++ (inner' ++ codes "*/") → ⊥
line-no_block bytes rest more behind inner inner' e is is' =
    let seconds : second_of (codes "//" ++ inner ++ rest) ≡ second_of (codes "/*" ++ (inner' ++ codes "*/") ++ behind) =
    ap (λ l. second_of (l ++ rest)) (sym is) ∙ ap second_of e ∙ ap (λ l. second_of (l ++ behind)) is' in
    slash-no_star seconds

lines-same : (bytes rest more behind inner inner' : List ℕ) → bytes ++ rest ≡ more ++ behind → bytes ≡ codes "//" ++ inner → more ≡ codes "//" ++ inner'
    → Lacks 10 inner → begins_with (λ byte. not (byte == 10)) rest ≡ false → Lacks 10 inner' → begins_with (λ byte. not (byte == 10)) behind ≡ false → (bytes ≡ more) × (rest ≡ behind)
lines-same bytes rest more behind inner inner' e is is' lacks stops lacks' stops' =
    let whole : codes "//" ++ (inner ++ rest) ≡ codes "//" ++ (inner' ++ behind) = sym (ap (λ l. l ++ rest) is) ∙ e ∙ ap (λ l. l ++ behind) is' in
    let tails = (front-same (codes "//") (codes "//") (inner ++ rest) (inner' ++ behind) whole refl).1 in
    let same = run-same (λ byte. not (byte == 10)) inner rest inner' behind tails lacks stops lacks' stops' in
    (is ∙ ap (λ l. codes "//" ++ l) same.0 ∙ sym is', same.1)

blocks-same : (bytes rest more behind inner inner' : List ℕ) → bytes ++ rest ≡ more ++ behind → bytes ≡ codes "/*" ++ (inner ++ codes "*/") → more ≡ codes "/*" ++ (inner' ++ codes "*/")
    → HasNoEnd inner → HasNoEnd inner' → (bytes ≡ more) × (rest ≡ behind)
blocks-same bytes rest more behind inner inner' e is is' none none' =
    let whole : codes "/*" ++ ((inner ++ codes "*/") ++ rest) ≡ codes "/*" ++ ((inner' ++ codes "*/") ++ behind) = sym (ap (λ l. l ++ rest) is) ∙ e ∙ ap (λ l. l ++ behind) is' in
    let tails = (front-same (codes "/*") (codes "/*") ((inner ++ codes "*/") ++ rest) ((inner' ++ codes "*/") ++ behind) whole refl).1 in
    let flat = sym (append_assoc inner (codes "*/") rest) ∙ tails ∙ append_assoc inner' (codes "*/") behind in
    let same = block-same inner rest inner' behind flat none none' in
    front-same bytes more rest behind e (ap length (is ∙ ap (λ l. codes "/*" ++ (l ++ codes "*/")) same ∙ sym is'))

-- two gaps at the front of one text are one
pub one-gap : (bytes rest more behind : List ℕ) → bytes ++ rest ≡ more ++ behind → IsGap bytes rest → IsGap more behind → (bytes ≡ more) × (rest ≡ behind)
one-gap bytes rest more behind e (white_space byte is white) (white_space byte' is' white') =
    front-same bytes more rest behind e (ap length is ∙ sym (ap length is'))
one-gap bytes rest more behind e (white_space byte is white) (line_comment inner is' lacks stops) =
    absurd (white-slashed bytes rest more behind byte e is white (line-slashed more inner is'))
one-gap bytes rest more behind e (white_space byte is white) (block_comment inner is' none) =
    absurd (white-slashed bytes rest more behind byte e is white (block-slashed more inner is'))
one-gap bytes rest more behind e (line_comment inner is lacks stops) (white_space byte is' white) =
    absurd (white-slashed more behind bytes rest byte (sym e) is' white (line-slashed bytes inner is))
one-gap bytes rest more behind e (line_comment inner is lacks stops) (line_comment inner' is' lacks' stops') =
    lines-same bytes rest more behind inner inner' e is is' lacks stops lacks' stops'
one-gap bytes rest more behind e (line_comment inner is lacks stops) (block_comment inner' is' none) =
    absurd (line-no_block bytes rest more behind inner inner' e is is')
one-gap bytes rest more behind e (block_comment inner is none) (white_space byte is' white) =
    absurd (white-slashed more behind bytes rest byte (sym e) is' white (block-slashed bytes inner is))
one-gap bytes rest more behind e (block_comment inner is none) (line_comment inner' is' lacks stops) =
    absurd (line-no_block more behind bytes rest inner' inner (sym e) is' is)
one-gap bytes rest more behind e (block_comment inner is none) (block_comment inner' is' none') =
    blocks-same bytes rest more behind inner inner' e is is' none none'

-- signs and gaps
sign-no_white : (sign : Sign) → is_white_space (first_of (spelling sign)) ≡ false
sign-no_white s.Assign = refl
sign-no_white _ = refl

slash-only : (sign : Sign) → (first_of (spelling sign) == 47) ≡ true → sign ≡ s.Slash
slash-only s.Slash e = refl
slash-only sign e = absurd (false≢true e)

sign-first : (sign : Sign) (rest : List ℕ) → first_of (spelling sign ++ rest) ≡ first_of (spelling sign)
sign-first s.Assign rest = refl
sign-first _ rest = refl

white-lead : (byte : ℕ) → is_white_space byte ≡ true → lead_byte_of byte ≡ Other
white-lead byte e =
    let a : is_ascii_alphabetic byte ≡ false = grind (arith, nat_tests, e) in
    let b : (byte == 39) ≡ false = grind (arith, nat_tests, e) in
    let c : is_ascii_digit byte ≡ false = grind (arith, nat_tests, e) in
    let d : (byte == 34) ≡ false = grind (arith, nat_tests, e) in
    rw (a, b, c, d) refl

-- what begins a gap: white space, or `/` and one more byte of `/` and `*`
pub data Opening (text : List ℕ) : Type 0 where
  space : is_white_space (first_of text) ≡ true → lead_of text ≡ Other → Opening text
  comment : (byte : ℕ) (rest : List ℕ) → text ≡ 47 ∷ byte ∷ rest → (byte == 42 || byte == 47) ≡ true → Opening text

gap-opening : (text bytes rest : List ℕ) → text ≡ bytes ++ rest → IsGap bytes rest → Opening text
gap-opening text bytes rest e (white_space byte is white) =
    let whole : text ≡ byte ∷ rest = e ∙ ap (λ l. l ++ rest) is in
    space (ap (λ l. is_white_space (first_of l)) whole ∙ white) (ap lead_of whole ∙ white-lead byte white)
gap-opening text bytes rest e (line_comment inner is lacks stops) = comment 47 (inner ++ rest) (e ∙ ap (λ l. l ++ rest) is) refl
gap-opening text bytes rest e (block_comment inner is none) = comment 42 ((inner ++ codes "*/") ++ rest) (e ∙ ap (λ l. l ++ rest) is) refl

no-sign : (text : List ℕ) (sign : Sign) (rest : List ℕ) → text ≡ spelling sign ++ rest → begins_with (goes_on (k.Sign sign)) rest ≡ false → Opening text → ⊥
no-sign text sign rest e ends (space white lead) =
    false≢true (sym (sign-no_white sign) ∙ ap is_white_space (sym (sign-first sign rest)) ∙ ap (λ l. is_white_space (first_of l)) (sym e) ∙ white)
no-sign text sign rest e ends (comment byte behind is opens) =
    let slash : sign ≡ s.Slash = slash-only sign (ap (λ b. b == 47) (sym (sign-first sign rest) ∙ ap first_of (sym e ∙ is))) in
    let whole : 47 ∷ rest ≡ 47 ∷ byte ∷ behind = ap (λ g. spelling g ++ rest) (sym slash) ∙ sym e ∙ is in
    let tails : rest ≡ byte ∷ behind = cc whole in
    false≢true (sym ends ∙ ap (λ g. begins_with (goes_on (k.Sign g)) rest) slash ∙ ap (begins_with (goes_on (k.Sign s.Slash))) tails ∙ opens)

opening-lead : (text : List ℕ) → Opening text → lead_of text ≡ Other
opening-lead text (space white lead) = lead
opening-lead text (comment byte rest is opens) = ap lead_of is

-- no token starts where a gap does
pub token-no_opening : (kind : TokenKind) (text bytes rest : List ℕ) → text ≡ bytes ++ rest → IsToken kind bytes rest → Opening text → ⊥
token-no_opening kind text bytes rest e token opening =
    by kind (sym (front-lead kind text bytes rest e token.spelled) ∙ opening-lead text opening) token.spelled token.ends
  where
    by : (kind : TokenKind) → lead_kind kind ≡ Other → Spells kind bytes → begins_with (goes_on kind) rest ≡ false → ⊥
    by (k.Sign sign) lead spelled ends = no-sign text sign rest (e ∙ ap (λ l. l ++ rest) spelled) ends opening
    by other_kind lead spelled ends = cc lead

pub gap-no_token : (kind : TokenKind) (text bytes rest more behind : List ℕ) → text ≡ bytes ++ rest → text ≡ more ++ behind → IsGap bytes rest → IsToken kind more behind → ⊥
gap-no_token kind text bytes rest more behind e f gap token = token-no_opening kind text more behind f token (gap-opening text bytes rest e gap)
