-- The clauses of `parse`, from the answer for the tokens: what a text is, is determined.
use Rattle.std.proofs.Common.{◌≡◌, ℕ, List, length, Option, Result, Ok, Err, MatchResult, subst}
use Rattle.grammar_forms.specs.Scripts.{SyntaxFault, WholeScript}
use Rattle.grammar_forms.proofs.Scripts.{fault-determined, scripts-unique, whole-no-fault}
use Rattle.sql_lexer.specs.Lexed.{IsLexed}
use Rattle.sql_lexer.proofs.LexedParts.{lexed-once}
use Rattle.sql_lexer.specs.declared.token.Token.{Token}
use Rattle.sql_tree.specs.Classes.{class}
use Rattle.sql_tree.specs.Grammar.{statement_at}
use Rattle.sql_tree.specs.Texts.{IsFaulty, IsScript, kind, start}
use Rattle.sql_tree.specs.Trees.{ScriptTree}
use Rattle.sql_tree.specs.View.{script_tree}
use Rattle.sql_tree.specs.declared.statements.SqlScript.{SqlScript}
use Rattle.sql_tree.proofs.ScriptLaws.{statement-closed}
use Rattle.sql_parser.specs.Parsed.{IsFault, IsFaultOf, IsMemory, IsSyntaxError}
use Rattle.sql_parser.specs.declared.parsing.SqlErr.{SqlErr}
use Rattle.sql_parser.specs.declared.parsing.SqlErr.TheVariants as e

-- a script by other tokens of the text, and a fault
whole_by : (tokens others : List Token) (bad worse : Option ℕ) (script : ScriptTree) → (tokens ≡ others) × (bad ≡ worse) → WholeScript kind statement_at 1 tokens bad script → WholeScript kind statement_at 1 others worse script
whole_by tokens others bad worse script e w = subst (λ b. WholeScript kind statement_at 1 others b script) e.1 (subst (λ ts. WholeScript kind statement_at 1 ts bad script) e.0 w)

fault_by : (tokens others : List Token) (bad worse : Option ℕ) (end done byte : ℕ) → (tokens ≡ others) × (bad ≡ worse) → SyntaxFault kind start statement_at 1 tokens bad end done byte → SyntaxFault kind start statement_at 1 others worse end done byte
fault_by tokens others bad worse end done byte e f = subst (λ b. SyntaxFault kind start statement_at 1 others b end done byte) e.1 (subst (λ ts. SyntaxFault kind start statement_at 1 ts bad end done byte) e.0 f)

pub one_script : (text : List ℕ) (a b : ScriptTree) → IsScript text a → IsScript text b → a ≡ b
one_script text a b s t =
    let same = lexed-once text s.tokens t.tokens s.bad t.bad s.lexed t.lexed in
    let whole = whole_by s.tokens t.tokens s.bad t.bad a same s.whole in
    scripts-unique kind start class statement_at statement-closed 0 _ a b whole.spelled t.whole.spelled

pub not_both : (text : List ℕ) (script : ScriptTree) (done byte : ℕ) → IsScript text script → IsFaulty text done byte → ⊥
not_both text script done byte s f =
    let same = lexed-once text s.tokens f.tokens s.bad f.bad s.lexed f.lexed in
    whole-no-fault kind start class statement_at statement-closed 1 f.tokens f.bad (length text) script done byte (whole_by s.tokens f.tokens s.bad f.bad script same s.whole) f.fault

pub one_fault : (text : List ℕ) (done byte other at : ℕ) → IsFaulty text done byte → IsFaulty text other at → (done ≡ other) × (byte ≡ at)
one_fault text done byte other at f g =
    let same = lexed-once text f.tokens g.tokens f.bad g.bad f.lexed g.lexed in
    fault-determined kind start class statement_at statement-closed 1 g.tokens g.bad (length text) done byte other at (fault_by f.tokens g.tokens f.bad g.bad (length text) done byte same f.fault) g.fault

-- ---- the clauses

abbrev pub Answered : List ℕ → Result SqlScript SqlErr → Type 0
Answered text r = MatchResult r (λ script. IsScript text (script_tree script)) (λ error. IsFault text error)

abbrev pub TokensAnswered : List Token → Option ℕ → ℕ → Result SqlScript SqlErr → Type 0
TokensAnswered tokens bad end r = MatchResult r (λ script. WholeScript kind statement_at 1 tokens bad (script_tree script)) (λ error. IsFaultOf tokens bad end error)

pub answered : (text : List ℕ) (tokens : List Token) (bad : Option ℕ) (r : Result SqlScript SqlErr) → IsLexed text tokens bad → TokensAnswered tokens bad (length text) r → Answered text r
answered text tokens bad (Ok script) lexed a = record { tokens = tokens; bad = bad; lexed = lexed; whole = a }
answered text tokens bad (Err (e.Syntax done byte)) lexed a = record { tokens = tokens; bad = bad; lexed = lexed; fault = a }
answered text tokens bad (Err e.OutOfMemory) lexed a = tt

pub answers_scripts : (text : List ℕ) (r : Result SqlScript SqlErr) → Answered text r → (script : ScriptTree) → IsScript text script → MatchResult r (λ read. script_tree read ≡ script) (λ error. IsMemory error)
answers_scripts text (Ok read) a script is = one_script text (script_tree read) script a is
answers_scripts text (Err (e.Syntax done byte)) a script is = absurd (not_both text script done byte is a)
answers_scripts text (Err e.OutOfMemory) a script is = tt

pub answers_faults : (text : List ℕ) (r : Result SqlScript SqlErr) → Answered text r → (done byte : ℕ) → IsFaulty text done byte → MatchResult r (λ read. ⊥) (λ error. IsSyntaxError done byte error)
answers_faults text (Ok read) a done byte is = not_both text (script_tree read) done byte a is
answers_faults text (Err (e.Syntax d b)) a done byte is = one_fault text d b done byte a is
answers_faults text (Err e.OutOfMemory) a done byte is = tt
