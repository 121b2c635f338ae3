-- How a statement is laid out: what stands between two of its tokens.
use Rattle.std.specs.Prelude.{◌+◌, ◌-◌, ◌*◌, ◌||◌, ◌&&◌, nat_le, ℕ, Bool, true, false, List, [], ◌∷◌, ◌++◌, length, replicate, chars, if◌then◌else◌}
use Rattle.vtl_lists.specs.Runs.{begins_with}
use Rattle.vtl_lexer.specs.declared.keyword.Keyword.TheVariants as word
use Rattle.vtl_lexer.specs.declared.token.Sign.TheVariants as sign
use Rattle.vtl_lexer.specs.declared.token.TokenKind.{TokenKind}
use Rattle.vtl_lexer.specs.declared.token.TokenKind.TheVariants as token
use Rattle.vtl_format.specs.Calls.{is_call}
use Rattle.vtl_format.specs.declared.gaps.Gap.{Gap}
use Rattle.vtl_format.specs.declared.gaps.Gap.TheVariants as gap
use Rattle.vtl_format.specs.declared.gaps.Style.{Style}
use Rattle.vtl_format.specs.declared.gaps.Style.TheVariants as style

-- a token with its bytes
pub record Lexeme : Type 0 where
  pub kind : TokenKind
  pub bytes : List ℕ

-- ---- kinds of tokens

abbrev pub opens : TokenKind → Bool
opens (token.Sign sign.OpenBracket) = true
opens (token.Sign sign.OpenSquare) = true
opens (token.Sign sign.OpenBrace) = true
opens kind = false

abbrev pub closes : TokenKind → Bool
closes (token.Sign sign.CloseBracket) = true
closes (token.Sign sign.CloseSquare) = true
closes (token.Sign sign.CloseBrace) = true
closes kind = false

-- no space stands before it
abbrev pub leans_back : TokenKind → Bool
leans_back (token.Sign sign.Comma) = true
leans_back (token.Sign sign.Semicolon) = true
leans_back (token.Sign sign.Colon) = true
leans_back (token.Sign sign.CloseBracket) = true
leans_back (token.Sign sign.CloseSquare) = true
leans_back (token.Sign sign.CloseBrace) = true
leans_back (token.Sign sign.OpenSquare) = true
leans_back (token.Sign sign.Hash) = true
leans_back kind = false

-- no space stands behind it
abbrev pub leans_on : TokenKind → Bool
leans_on (token.Sign sign.OpenBracket) = true
leans_on (token.Sign sign.OpenSquare) = true
leans_on (token.Sign sign.OpenBrace) = true
leans_on (token.Sign sign.Hash) = true
leans_on kind = false

abbrev pub is_open_bracket : TokenKind → Bool
is_open_bracket (token.Sign sign.OpenBracket) = true
is_open_bracket kind = false

abbrev pub is_comma : TokenKind → Bool
is_comma (token.Sign sign.Comma) = true
is_comma kind = false

abbrev pub is_define : TokenKind → Bool
is_define (token.Keyword word.Define) = true
is_define kind = false

abbrev pub is_end : TokenKind → Bool
is_end (token.Keyword word.End) = true
is_end kind = false

-- a rule of a definition, or its `end`, stands behind it
abbrev pub precedes_rule : TokenKind → Bool
precedes_rule (token.Keyword word.Is) = true
precedes_rule (token.Sign sign.Semicolon) = true
precedes_rule kind = false

-- ---- what stands between two tokens

-- so many brackets are open behind the token
abbrev pub depth_behind : ℕ → TokenKind → ℕ
depth_behind depth kind = if opens kind then depth + 1 else (if closes kind then depth - 1 else depth)

-- the two stand together
abbrev pub is_tight : TokenKind → TokenKind → Bool
is_tight a b = leans_back b || (leans_on a || (is_open_bracket b && is_call a))

abbrev pub space : TokenKind → TokenKind → Gap
space a b = if is_tight a b then gap.Nothing else gap.Space

-- A line ends behind each opening bracket and each comma, and before each closing bracket, which stands as its opening bracket's line does.
abbrev pub broken_gap : ℕ → TokenKind → TokenKind → Gap
broken_gap depth a b =
    if closes b then gap.Line (depth - 1)
    else (if opens a || is_comma a then gap.Line depth else space a b)

-- In a definition each rule stands on a line of its own, and so does what ends it.
abbrev pub definition_gap : TokenKind → TokenKind → Gap
definition_gap a b = if is_end b then gap.Line 0 else (if precedes_rule a then gap.Line 1 else space a b)

abbrev pub gap_between : Style → ℕ → TokenKind → TokenKind → Gap
gap_between style.OneLine depth a b = space a b
gap_between style.Broken depth a b = broken_gap depth a b
gap_between style.Definition depth a b = definition_gap a b

-- a line's end has two spaces behind it for each bracket
abbrev pub gap_text : Gap → List ℕ
gap_text gap.Nothing = []
gap_text gap.Space = 32 ∷ []
gap_text (gap.Line depth) = 10 ∷ replicate (2 * depth) 32

-- ---- a statement

-- what stands between a token and those that follow it in its statement
abbrev pub gap_behind : Style → ℕ → TokenKind → List Lexeme → List ℕ
gap_behind way depth kind [] = []
gap_behind way depth kind (next ∷ rest) = gap_text (gap_between way depth kind next.kind)

-- the tokens with what stands between them; before the first of them so many brackets are open
abbrev pub laid : Style → ℕ → List Lexeme → List ℕ
laid way depth [] = []
laid way depth (first ∷ rest) =
    first.bytes ++ (gap_behind way (depth_behind depth first.kind) first.kind rest ++ laid way (depth_behind depth first.kind) rest)

-- the most characters of a transformation that stands on one line, with its `;`
abbrev pub most_characters : ℕ
most_characters = 100

abbrev pub is_definition : List Lexeme → Bool
is_definition lexemes = begins_with (λ (lexeme : Lexeme). is_define lexeme.kind) lexemes

abbrev pub is_short : List ℕ → Bool
is_short bytes = nat_le (length (chars bytes)) most_characters

abbrev pub statement_style : List Lexeme → Style
statement_style lexemes =
    if is_definition lexemes then style.Definition
    else (if is_short (laid style.OneLine 0 lexemes) then style.OneLine else style.Broken)

abbrev pub statement_form : List Lexeme → List ℕ
statement_form lexemes = laid (statement_style lexemes) 0 lexemes
