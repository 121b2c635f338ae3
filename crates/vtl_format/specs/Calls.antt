-- Which words open a call.
use Rattle.std.specs.Prelude.{Bool, is_some}
use Rattle.vtl_grammar.specs.Words.{form_at}
use Rattle.vtl_lexer.specs.declared.token.TokenKind.{TokenKind}

-- the word of a function, of another call, of a join or of `cast`
abbrev pub is_call : TokenKind → Bool
is_call kind = is_some (form_at kind)
