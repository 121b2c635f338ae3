-- Which scripts can be written: those of the grammar whose names, numbers and texts can be spelled.
use Rattle.std.specs.Prelude.{ℕ, List}
use Rattle.std.specs.List.{AllByRecursion}
use Rattle.vtl_lexer.specs.Spelling.{Spells}
use Rattle.vtl_lexer.specs.declared.token.TokenKind.{TokenKind}
use Rattle.vtl_syntax.specs.Trees.{ScriptTree}
use Rattle.vtl_grammar.specs.Fits.{InGrammar}
use Rattle.vtl_grammar.specs.Grammar.{tokens_of}

-- some bytes spell the token
abbrev pub IsSpelled : TokenKind → Type 0
IsSpelled kind = (bytes : List ℕ) × Spells kind bytes

pub record Written (script : ScriptTree) : Type 0 where
  pub each : AllByRecursion InGrammar script
  pub spelled : AllByRecursion IsSpelled (tokens_of script)
