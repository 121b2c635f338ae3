-- The clauses of `parse`, from the answer for the tokens.
use Rattle.std.proofs.Common.{◌≡◌, ℕ, List, Option, Result, Ok, Err, IfOk, MatchResult, map, subst, sym}
use Rattle.vtl_grammar.specs.Faults.{WholeScript}
use Rattle.vtl_lexer.specs.Lexed.{IsLexed}
use Rattle.vtl_lexer.specs.declared.token.Token.{Token}
use Rattle.vtl_syntax.specs.Trees.{ScriptTree}
use Rattle.vtl_syntax.specs.View.{script_tree, statement_tree}
use Rattle.vtl_syntax.specs.Written.{AreWritten}
use Rattle.vtl_syntax.specs.declared.statements.Script.{Script}
use Rattle.vtl_syntax.specs.declared.statements.Statement.{Statement}
use Rattle.vtl_parser.specs.Parsed.{IsSyntaxError, IsFault, IsFaultOf, IsFaulty, IsMemory, IsScript}
use Rattle.vtl_parser.specs.declared.parsing.ParseErr.{ParseErr}
use Rattle.vtl_parser.specs.declared.parsing.ParseErr.TheVariants as e
use Rattle.vtl_parser.proofs.SpelledTrees.{trees_written}
use Rattle.vtl_parser.proofs.Texts.{not_both, one_fault, one_script}
use Rattle.vtl_parser.proofs.WrittenLemmas.{script_written}

abbrev pub Answered : List ℕ → Result Script ParseErr → Type 0
Answered text r = MatchResult r (λ script. IsScript text (script_tree script)) (λ error. IsFault text error)

abbrev pub TokensAnswered : List Token → Option ℕ → Result Script ParseErr → Type 0
TokensAnswered tokens bad r = MatchResult r (λ script. WholeScript tokens bad (script_tree script)) (λ error. IsFaultOf tokens bad error)

pub answered : (text : List ℕ) (tokens : List Token) (bad : Option ℕ) (r : Result Script ParseErr) → IsLexed text tokens bad → TokensAnswered tokens bad r → Answered text r
answered text tokens bad (Ok script) lexed a = record { tokens = tokens; bad = bad; lexed = lexed; whole = a }
answered text tokens bad (Err (e.Syntax done byte)) lexed a = record { tokens = tokens; bad = bad; lexed = lexed; fault = a }
answered text tokens bad (Err e.OutOfMemory) lexed a = tt

-- a script of these statements, or want of memory
pub answered_whole : (tokens : List Token) (bad : Option ℕ) (statements : List Statement) (r : Result Script ParseErr) → MatchResult r (λ script. script.statements ≡ statements) (λ error. IsMemory error)
    → WholeScript tokens bad (map statement_tree statements) → TokensAnswered tokens bad r
answered_whole tokens bad statements (Ok script) e whole = subst (λ l. WholeScript tokens bad (map statement_tree l)) (sym e) whole
answered_whole tokens bad statements (Err (e.Syntax done byte)) h whole = absurd h
answered_whole tokens bad statements (Err e.OutOfMemory) h whole = tt

pub answers_scripts : (text : List ℕ) (r : Result Script ParseErr) → Answered text r → (script : ScriptTree) → IsScript text script → MatchResult r (λ read. script_tree read ≡ script) (λ error. IsMemory error)
answers_scripts text (Ok read) a script is = one_script text (script_tree read) script a is
answers_scripts text (Err (e.Syntax done byte)) a script is = not_both text script done byte is a
answers_scripts text (Err e.OutOfMemory) a script is = tt

pub answers_faults : (text : List ℕ) (r : Result Script ParseErr) → Answered text r → (done byte : ℕ) → IsFaulty text done byte → MatchResult r (λ read. ⊥) (λ error. IsSyntaxError done byte error)
answers_faults text (Ok read) a done byte is = not_both text (script_tree read) done byte a is
answers_faults text (Err (e.Syntax d b)) a done byte is = one_fault text d b done byte a is
answers_faults text (Err e.OutOfMemory) a done byte is = tt

pub answers_written : (text : List ℕ) (r : Result Script ParseErr) → Answered text r → IfOk r (λ script. AreWritten (script_tree script))
answers_written text (Ok read) a = trees_written (script_tree read) (script_written text (script_tree read) a)
answers_written text (Err error) a = tt
