-- What a text is: a script, or a text with a fault.
use Rattle.std.specs.Prelude.{◌≡◌, ℕ, List, Option}
use Rattle.vtl_grammar.specs.Faults.{SyntaxFault, WholeScript}
use Rattle.vtl_lexer.specs.Lexed.{IsLexed}
use Rattle.vtl_lexer.specs.declared.token.Token.{Token}
use Rattle.vtl_syntax.specs.Trees.{ScriptTree}
use Rattle.vtl_parser.specs.declared.parsing.ParseErr.{ParseErr}
use Rattle.vtl_parser.specs.declared.parsing.ParseErr.TheVariants as e

-- all of the text is tokens, and they spell the script
pub record IsScript (text : List ℕ) (script : ScriptTree) : Type 0 where
  pub tokens : List Token
  pub bad : Option ℕ
  pub lexed : IsLexed text tokens bad
  pub whole : WholeScript tokens bad script

-- the text is no script: this is its fault
pub record IsFaulty (text : List ℕ) (done byte : ℕ) : Type 0 where
  pub tokens : List Token
  pub bad : Option ℕ
  pub lexed : IsLexed text tokens bad
  pub fault : SyntaxFault tokens bad done byte

-- the error tells the fault of the text; want of memory comes in any case
abbrev pub IsFault : List ℕ → ParseErr → Type 0
IsFault text (e.Syntax done byte) = IsFaulty text done byte
IsFault text e.OutOfMemory = Unit {0}

-- the error tells the fault of the tokens, where none starts from the byte behind them
abbrev pub IsFaultOf : List Token → Option ℕ → ParseErr → Type 0
IsFaultOf tokens bad (e.Syntax done byte) = SyntaxFault tokens bad done byte
IsFaultOf tokens bad e.OutOfMemory = Unit {0}

-- the error tells this fault
abbrev pub IsSyntaxError : ℕ → ℕ → ParseErr → Type 0
IsSyntaxError done byte (e.Syntax d b) = (d ≡ done) × (b ≡ byte)
IsSyntaxError done byte e.OutOfMemory = Unit {0}

abbrev pub IsMemory : ParseErr → Type 0
IsMemory (e.Syntax done byte) = ⊥
IsMemory e.OutOfMemory = Unit {0}
