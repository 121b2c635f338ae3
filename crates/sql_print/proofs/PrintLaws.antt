-- The text of a printable script reads back.
use Rattle.std.proofs.Common.{◌≡◌, ◌∙◌, ◌≤◌, ℕ, List, [], ◌∷◌, ◌++◌, None, length, map, chars, refl, sym, ap, subst, arith, Result, Ok, Err, IfOk, String, string_bytes}
use Rattle.std.specs.declared.alloc.AllocError.{AllocError}
use Rattle.std.specs.declared.alloc.Global.{Global}
use Rattle.grammar_forms.specs.Scripts.{ScriptSpells}
use Rattle.grammar_forms.proofs.Scripts.{scripts-unique}
use Rattle.sql_lexer.specs.Lexed.{kinds_of}
use Rattle.sql_lexer.specs.declared.token.Token.{Token}
use Rattle.sql_lexer.specs.declared.token.TokenKind.{TokenKind}
use Rattle.sql_lexer.proofs.LexedParts.{lexed-once}
use Rattle.sql_lexer.proofs.WritingLaws.{written-lexed}
use Rattle.sql_tree.specs.Classes.{class}
use Rattle.sql_tree.specs.Formed.{PrintableScript}
use Rattle.sql_tree.specs.Grammar.{statement_at}
use Rattle.sql_tree.specs.Printing.{written_script}
use Rattle.sql_tree.specs.Texts.{IsScript, kind, start}
use Rattle.sql_tree.specs.Trees.{ScriptTree}
use Rattle.sql_tree.proofs.ScriptLaws.{statement-closed}
use Rattle.sql_tree.proofs.ScriptPrints.{script-of}
use Rattle.sql_print.specs.Gaps.{WrittenAs, gap_text}
use Rattle.sql_print.specs.Printed.{HasTokens}
use Rattle.sql_print.specs.declared.gaps.Gap.TheVariants as gap
use Rattle.sql_print.proofs.FormedTokens.{script-all}

pub has-tokens : (text front : List ℕ) (kinds : List TokenKind) (script : ScriptTree) → PrintableScript script → kinds ≡ written_script script → chars text ≡ front ++ gap_text gap.Statement → WrittenAs kinds kinds front → HasTokens text (written_script script)
has-tokens text front kinds script printable are is written =
    let here : WrittenAs (written_script script) (written_script script) front = subst (λ ks. WrittenAs ks ks front) are written in
    written-lexed text (written_script script) front (gap_text gap.Statement) (here (script-all script printable)) refl is

kinds-map : (ts : List Token) → kinds_of ts ≡ map kind ts
kinds-map [] = refl
kinds-map (t ∷ ts) = ap (λ ks. t.kind ∷ ks) (kinds-map ts)

some-statement : (script : ScriptTree) → PrintableScript script → 1 ≤ length script
some-statement [] h = absurd h
some-statement (s ∷ ss) h = omega arith

pub is-script : (text : List ℕ) (script : ScriptTree) → PrintableScript script → HasTokens text (written_script script) → IsScript text script
is-script text script printable h = record {
  tokens = h.0;
  bad = None;
  lexed = h.1;
  whole = record { whole = refl; spelled = subst (λ ks. ScriptSpells statement_at 0 ks script) (sym h.2 ∙ kinds-map h.0) (script-of script printable); enough = some-statement script printable };
}

pub script-once : (text : List ℕ) (a b : ScriptTree) → IsScript text a → IsScript text b → a ≡ b
script-once text a b ha hb =
    let same = (lexed-once text ha.tokens hb.tokens ha.bad hb.bad ha.lexed hb.lexed).0 in
    scripts-unique kind start class statement_at statement-closed 0 (map kind hb.tokens) a b (subst (λ ts. ScriptSpells statement_at 0 (map kind ts) a) same ha.whole.spelled) hb.whole.spelled

-- ---- the answer of printing

abbrev LaidOut : Result (String Global) AllocError → List TokenKind → Type 0
LaidOut r kinds = IfOk r (λ text. (front : List ℕ) × (chars (string_bytes text) ≡ front ++ gap_text gap.Statement) × WrittenAs kinds kinds front)

pub printed-tokens : (r : Result (String Global) AllocError) (kinds : List TokenKind) (script : ScriptTree) → kinds ≡ written_script script → LaidOut r kinds → IfOk r (λ text. PrintableScript script → HasTokens (string_bytes text) (written_script script))
printed-tokens (Ok text) kinds script are laid = λ printable. has-tokens (string_bytes text) laid.0 kinds script printable are laid.1 laid.2
printed-tokens (Err e) kinds script are laid = tt

pub printed-script : (r : Result (String Global) AllocError) (script : ScriptTree) → IfOk r (λ text. PrintableScript script → HasTokens (string_bytes text) (written_script script)) → IfOk r (λ text. PrintableScript script → IsScript (string_bytes text) script)
printed-script (Ok text) script has = λ printable. is-script (string_bytes text) script printable (has printable)
printed-script (Err e) script has = tt

pub printed-alone : (r : Result (String Global) AllocError) (script : ScriptTree) → IfOk r (λ text. PrintableScript script → IsScript (string_bytes text) script) → IfOk r (λ text. PrintableScript script → (other : ScriptTree) → IsScript (string_bytes text) other → other ≡ script)
printed-alone (Ok text) script is = λ printable other h. script-once (string_bytes text) other script h (is printable)
printed-alone (Err e) script is = tt
