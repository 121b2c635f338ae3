-- Which tokens stand apart, and a token more.
use Rattle.std.proofs.Common.{◌≡◌, ◌∙◌, ◌<◌, ℕ, zero, suc, List, [], ◌∷◌, ◌++◌, length, get_or, take, refl, sym, ap, subst, arith, append_assoc}
use Rattle.std.proofs.Math.Seq.{take-suc}
use Rattle.grammar_forms.specs.Written.{Each}
use Rattle.sql_lexer.specs.Spelling.{IsFormed, spelled}
use Rattle.sql_lexer.specs.Writing.{IsApart, IsGap, more}
use Rattle.sql_lexer.specs.declared.token.TokenKind.{TokenKind}
use Rattle.sql_lexer.specs.declared.token.TokenKind.TheVariants as t
use Rattle.sql_lexer.specs.declared.token.Word.TheVariants as w
use Rattle.sql_lexer.proofs.WritingLaws.{apart-gap, apart-here, apart-last, apart-quiet}
use Rattle.sql_print.specs.Gaps.{Fits, WrittenAs, gap_text}
use Rattle.sql_print.specs.declared.gaps.Gap.{Gap}
use Rattle.sql_print.specs.declared.gaps.Gap.TheVariants as gap

pub close-apart : (kinds : List TokenKind) → IsApart kinds (spelled (t.Word w.Close))
close-apart kinds = apart-quiet kinds 41 [] refl

pub comma-apart : (kinds : List TokenKind) → IsApart kinds (spelled (t.Word w.Comma))
comma-apart kinds = apart-quiet kinds 44 [] refl

pub semicolon-apart : (kinds : List TokenKind) → IsApart kinds (spelled (t.Word w.Semicolon))
semicolon-apart kinds = apart-quiet kinds 59 [] refl

pub open-apart : (kinds : List TokenKind) → IsApart kinds (spelled (t.Word w.Open))
open-apart kinds = apart-quiet kinds 40 [] refl

pub behind-open : (kinds : List TokenKind) (text : List ℕ) → IsApart (kinds ++ t.Word w.Open ∷ []) text
behind-open kinds text = apart-last kinds (t.Word w.Open) text (λ c. refl)

pub behind-dot : (kinds : List TokenKind) (text : List ℕ) → IsApart (kinds ++ t.Word w.Dot ∷ []) text
behind-dot kinds text = apart-last kinds (t.Word w.Dot) text (λ c. refl)

pub behind-plus : (kinds : List TokenKind) (text : List ℕ) → IsApart (kinds ++ t.Word w.Plus ∷ []) text
behind-plus kinds text = apart-last kinds (t.Word w.Plus) text (λ c. refl)

pub behind-minus : (kinds : List TokenKind) (text : List ℕ) → IsApart (kinds ++ t.Word w.Minus ∷ []) text
behind-minus kinds text = apart-last kinds (t.Word w.Minus) text (λ c. refl)

pub behind-name : (kinds : List TokenKind) (name : List ℕ) → IsApart (kinds ++ t.Name name ∷ []) (spelled (t.Word w.Dot))
behind-name kinds name = apart-here kinds (t.Name name) 46 [] refl

pub ruleset aparts = (close-apart, comma-apart, semicolon-apart, open-apart, behind-open, behind-dot, behind-plus, behind-minus, behind-name)

-- ---- a token more

gap-white : (g : Gap) → IsGap (gap_text g)
gap-white gap.Nothing = refl
gap-white gap.Space = refl
gap-white gap.Statement = refl
gap-white gap.Clause = refl
gap-white gap.Item = refl

pub space-fits : (kinds : List TokenKind) (kind : TokenKind) → Fits kinds gap.Space kind
space-fits kinds kind = apart-gap kinds (gap_text gap.Space) (spelled kind) refl (omega arith)

pub statement-fits : (kinds : List TokenKind) (kind : TokenKind) → Fits kinds gap.Statement kind
statement-fits kinds kind = apart-gap kinds (gap_text gap.Statement) (spelled kind) refl (omega arith)

pub clause-fits : (kinds : List TokenKind) (kind : TokenKind) → Fits kinds gap.Clause kind
clause-fits kinds kind = apart-gap kinds (gap_text gap.Clause) (spelled kind) refl (omega arith)

pub item-fits : (kinds : List TokenKind) (kind : TokenKind) → Fits kinds gap.Item kind
item-fits kinds kind = apart-gap kinds (gap_text gap.Item) (spelled kind) refl (omega arith)

first-apart : (text : List ℕ) → IsApart [] text
first-apart [] = refl
first-apart (c ∷ text) = refl

pub first-fits : (kind : TokenKind) → Fits [] gap.Nothing kind
first-fits kind = first-apart (spelled kind)

pub ruleset fits = (first-fits, space-fits, statement-fits, clause-fits, item-fits)

formed-at : (ts : List TokenKind) (i : ℕ) (kind : TokenKind) → i < length ts → kind ≡ get_or ts i kind → Each IsFormed ts → IsFormed kind
formed-at [] i kind low is each = absurd (omega (arith, low))
formed-at (t ∷ ts) zero kind low is each = subst IsFormed (sym is) each.0
formed-at (t ∷ ts) (suc i) kind low is each = formed-at ts i kind (omega (arith, low)) is each.1

pub token-more : (ts : List TokenKind) (i j : ℕ) (kind : TokenKind) (g : Gap) (text out : List ℕ) → i < length ts → j ≡ suc i → kind ≡ get_or ts i kind → Fits (take i ts) g kind → out ≡ (text ++ gap_text g) ++ spelled kind → WrittenAs ts (take i ts) text → WrittenAs ts (take j ts) out
token-more ts i j kind g text out low next is fits written h formed =
    more (take i ts) kind text (gap_text g) (take j ts) out (h formed) (formed-at ts i kind low is formed) (gap-white g) fits
    (ap (λ n. take n ts) next ∙ take-suc ts i kind low ∙ ap (λ k. take i ts ++ k ∷ []) (sym is)) (written ∙ append_assoc text (gap_text g) (spelled kind))
