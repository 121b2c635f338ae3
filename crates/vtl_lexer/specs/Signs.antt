-- Which sign one byte or two bytes are.
use Rattle.std.specs.Prelude.{◌==◌, ◌&&◌, ◌||◌, ℕ, Bool, Option, Some, None, if◌then◌else◌}
use Rattle.vtl_lexer.specs.declared.token.Sign.{Sign}
use Rattle.vtl_lexer.specs.declared.token.Sign.TheVariants as s

abbrev pub sign_of_two : ℕ → ℕ → Option Sign
sign_of_two first second =
    if first == 58 && second == 61 then Some s.Assign
    else if first == 60 && second == 45 then Some s.Persist
    else if first == 60 && second == 62 then Some s.NotEqual
    else if first == 60 && second == 61 then Some s.LessOrEqual
    else if first == 62 && second == 61 then Some s.GreaterOrEqual
    else if first == 124 && second == 124 then Some s.Concat
    else None

abbrev pub sign_of_one : ℕ → Option Sign
sign_of_one byte =
    if byte == 60 then Some s.Less
    else if byte == 62 then Some s.Greater
    else if byte == 61 then Some s.Equal
    else if byte == 43 then Some s.Plus
    else if byte == 45 then Some s.Minus
    else if byte == 42 then Some s.Star
    else if byte == 47 then Some s.Slash
    else if byte == 40 then Some s.OpenBracket
    else if byte == 41 then Some s.CloseBracket
    else if byte == 91 then Some s.OpenSquare
    else if byte == 93 then Some s.CloseSquare
    else if byte == 123 then Some s.OpenBrace
    else if byte == 125 then Some s.CloseBrace
    else if byte == 44 then Some s.Comma
    else if byte == 59 then Some s.Semicolon
    else if byte == 58 then Some s.Colon
    else if byte == 35 then Some s.Hash
    else None

-- whether two bytes begin a comment
abbrev pub begins_comment : ℕ → ℕ → Bool
begins_comment first second = first == 47 && (second == 42 || second == 47)
