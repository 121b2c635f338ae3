-- Why a text was not read as tokens.
use Rattle.std.specs.Prelude.{◌≡◌, ℕ, List, Option, Some}
use Rattle.vtl_lexer.specs.Lexed.{IsLexed}
use Rattle.vtl_lexer.specs.declared.lexing.LexErr.{LexErr}
use Rattle.vtl_lexer.specs.declared.lexing.LexErr.TheVariants as e
use Rattle.vtl_lexer.specs.declared.token.Token.{Token}

-- the error names this place; want of memory comes in any case
abbrev pub IsErrorOf : Option ℕ → LexErr → Type 0
IsErrorOf bad (e.Bad byte) = bad ≡ Some byte
IsErrorOf bad e.OutOfMemory = Unit {0}

-- the error names the first byte of the text from which no token starts
abbrev pub IsFault : List ℕ → LexErr → Type 0
IsFault text (e.Bad byte) = (tokens : List Token) × IsLexed text tokens (Some byte)
IsFault text e.OutOfMemory = Unit {0}
