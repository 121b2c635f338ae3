-- What a text is: a script, or a text with a fault. A text is given by its bytes in UTF-8.
use Rattle.std.specs.Prelude.{ℕ, List, Option, length}
use Rattle.grammar_forms.specs.Scripts.{WholeScript, SyntaxFault}
use Rattle.sql_lexer.specs.Lexed.{IsLexed}
use Rattle.sql_lexer.specs.declared.token.Token.{Token}
use Rattle.sql_lexer.specs.declared.token.TokenKind.{TokenKind}
use Rattle.sql_tree.specs.Grammar.{statement_at}
use Rattle.sql_tree.specs.Trees.{ScriptTree}

abbrev pub kind : Token → TokenKind
kind t = t.kind

abbrev pub start : Token → ℕ
start t = t.start

-- all of the text is tokens, and they spell the script, in which SET stands first
pub record IsScript (text : List ℕ) (script : ScriptTree) : Type 0 where
  pub tokens : List Token
  pub bad : Option ℕ
  pub lexed : IsLexed text tokens bad
  pub whole : WholeScript kind statement_at 1 tokens bad script

-- the text is no script: this is its fault
pub record IsFaulty (text : List ℕ) (done byte : ℕ) : Type 0 where
  pub tokens : List Token
  pub bad : Option ℕ
  pub lexed : IsLexed text tokens bad
  pub fault : SyntaxFault kind start statement_at 1 tokens bad (length text) done byte
