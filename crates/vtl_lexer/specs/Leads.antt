-- What a text begins with.
use Rattle.std.specs.Prelude.{◌==◌, ℕ, List, [], ◌∷◌, if◌then◌else◌}
use Rattle.std.specs.Char.{is_ascii_alphabetic, is_ascii_digit}
use Rattle.vtl_lexer.specs.declared.lead.Lead.{Lead}
use Rattle.vtl_lexer.specs.declared.lead.Lead.TheVariants.{Nothing, Letter, Digit, Quote, DoubleQuote, Other}

abbrev pub lead_byte_of : ℕ → Lead
lead_byte_of byte =
    if is_ascii_alphabetic byte then Letter else if is_ascii_digit byte then Digit
    else if byte == 39 then Quote
    else if byte == 34 then DoubleQuote
    else Other

abbrev pub lead_of : List ℕ → Lead
lead_of [] = Nothing
lead_of (byte ∷ bytes) = lead_byte_of byte
