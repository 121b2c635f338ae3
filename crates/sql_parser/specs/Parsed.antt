-- What parsing answers.
use Rattle.std.specs.Prelude.{◌≡◌, ℕ, List, [], ◌∷◌, Option, Some, Result, Ok, Err}
use Rattle.grammar_forms.specs.Scripts.{SyntaxFault}
use Rattle.sql_lexer.specs.declared.token.Token.{Token}
use Rattle.sql_lexer.specs.declared.token.TokenKind.{TokenKind}
use Rattle.sql_tree.specs.Grammar.{statement_at}
use Rattle.sql_tree.specs.Texts.{IsFaulty, kind, start}
use Rattle.sql_tree.specs.Trees.{ScriptTree}
use Rattle.sql_tree.specs.View.{script_tree}
use Rattle.sql_tree.specs.declared.statements.SqlScript.{SqlScript}
use Rattle.sql_parser_parts.specs.Answers.{kinds}
use Rattle.sql_parser_parts.specs.declared.front.Front.{Front}
use Rattle.sql_parser_parts.specs.declared.front.Unread.{Unread}
use Rattle.sql_parser_parts.specs.declared.front.Unread.TheVariants as u
use Rattle.sql_parser.specs.declared.parsing.SqlErr.{SqlErr}
use Rattle.sql_parser.specs.declared.parsing.SqlErr.TheVariants as e

-- the statements that were read, SET first, and what is left; or none
abbrev pub AnswersScript : ScriptTree × List TokenKind → List TokenKind → Result (Front SqlScript) Unread → Type 0
AnswersScript reading ts (Ok front) = reading ≡ (script_tree front.part, kinds front.rest.now)
AnswersScript reading ts (Err u.Absent) = reading ≡ ([], ts)
AnswersScript reading ts (Err u.OutOfMemory) = Unit {0}

abbrev pub next_byte_of : List Token → Option ℕ → Option ℕ
next_byte_of [] bad = bad
next_byte_of (t ∷ ts) bad = Some (start t)

-- the error tells the fault of the text; want of memory comes in any case
abbrev pub IsFault : List ℕ → SqlErr → Type 0
IsFault text (e.Syntax done byte) = IsFaulty text done byte
IsFault text e.OutOfMemory = Unit {0}

-- the error tells the fault of the tokens, where none starts from the byte behind them
abbrev pub IsFaultOf : List Token → Option ℕ → ℕ → SqlErr → Type 0
IsFaultOf tokens bad end (e.Syntax done byte) = SyntaxFault kind start statement_at 1 tokens bad end done byte
IsFaultOf tokens bad end e.OutOfMemory = Unit {0}

-- the error tells this fault
abbrev pub IsSyntaxError : ℕ → ℕ → SqlErr → Type 0
IsSyntaxError done byte (e.Syntax d b) = (d ≡ done) × (b ≡ byte)
IsSyntaxError done byte e.OutOfMemory = Unit {0}

abbrev pub IsMemory : SqlErr → Type 0
IsMemory (e.Syntax done byte) = ⊥
IsMemory e.OutOfMemory = Unit {0}
