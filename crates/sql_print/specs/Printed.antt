-- What a printed text is.
use Rattle.std.specs.Prelude.{◌≡◌, ℕ, List, None}
use Rattle.sql_lexer.specs.Lexed.{IsLexed, kinds_of}
use Rattle.sql_lexer.specs.declared.token.Token.{Token}
use Rattle.sql_lexer.specs.declared.token.TokenKind.{TokenKind}

-- these are the tokens of the text
abbrev pub HasTokens : List ℕ → List TokenKind → Type 0
HasTokens text kinds = (tokens : List Token) × IsLexed text tokens None × (kinds_of tokens ≡ kinds)
