-- The canonical text of a script.
use Rattle.std.specs.Prelude.{◌≡◌, ◌+◌, ◌==◌, not, ℕ, Bool, true, false, List, [], ◌∷◌, ◌++◌, None, map, if◌then◌else◌}
use Rattle.std.specs.List.{slice_range}
use Rattle.vtl_lexer.specs.Parts.{HasParts}
use Rattle.vtl_lexer.specs.Pieces.{Piece, a_comment, a_token, pieces_of}
use Rattle.vtl_lexer.specs.declared.keyword.Keyword.TheVariants as word
use Rattle.vtl_lexer.specs.declared.parts.Part.{Part}
use Rattle.vtl_lexer.specs.declared.token.Sign.TheVariants as sign
use Rattle.vtl_lexer.specs.declared.token.Token.{Token}
use Rattle.vtl_lexer.specs.declared.token.TokenKind.{TokenKind}
use Rattle.vtl_lexer.specs.declared.token.TokenKind.TheVariants as token
use Rattle.vtl_format.specs.Layout.{Lexeme, statement_form}

-- ---- statements

-- whether a `;` would stand within a definition, behind this token: between a `define` and its `end`
abbrev pub is_inside : Bool → TokenKind → Bool
is_inside inside (token.Keyword word.Define) = true
is_inside inside (token.Keyword word.End) = false
is_inside inside kind = inside

abbrev pub ends_statement : Bool → TokenKind → Bool
ends_statement inside (token.Sign sign.Semicolon) = not inside
ends_statement inside kind = false

abbrev pub lexeme : TokenKind → List ℕ → Lexeme
lexeme kind bytes = record { kind = kind; bytes = bytes }

-- the tokens among the pieces of a text
abbrev pub lexemes : List Piece → List Lexeme
lexemes [] = []
lexemes (a_token kind bytes ∷ pieces) = lexeme kind bytes ∷ lexemes pieces
lexemes (a_comment bytes ∷ pieces) = lexemes pieces

-- the tokens without their bytes
abbrev pub kinds_of : List Lexeme → List TokenKind
kinds_of lexemes = map (λ (lexeme : Lexeme). lexeme.kind) lexemes

-- the token before those of the first statement
abbrev pub with_first : Lexeme → List (List Lexeme) → List (List Lexeme)
with_first first [] = (first ∷ []) ∷ []
with_first first (statement ∷ others) = (first ∷ statement) ∷ others

-- the tokens by statements, each up to and with its `;`
abbrev pub statements : Bool → List Lexeme → List (List Lexeme)
statements inside [] = []
statements inside (first ∷ rest) =
    if ends_statement inside first.kind then (first ∷ []) ∷ statements false rest
    else with_first first (statements (is_inside inside first.kind) rest)

-- ---- comments

-- a comment, and how many statements end before it
pub record Remark : Type 0 where
  pub number : ℕ
  pub bytes : List ℕ

abbrev pub remark : ℕ → List ℕ → Remark
remark number bytes = record { number = number; bytes = bytes }

-- the comments among the pieces, where so many statements ended before
abbrev pub remarks_from : Bool → ℕ → List Piece → List Remark
remarks_from inside number [] = []
remarks_from inside number (a_comment bytes ∷ pieces) = remark number bytes ∷ remarks_from inside number pieces
remarks_from inside number (a_token kind bytes ∷ pieces) =
    if ends_statement inside kind then remarks_from false (number + 1) pieces
    else remarks_from (is_inside inside kind) number pieces

abbrev pub remarks : List Piece → List Remark
remarks pieces = remarks_from false 0 pieces

-- ---- the whole

-- the comments with this number, each on a line of its own
abbrev pub remark_lines : ℕ → List Remark → List ℕ
remark_lines number [] = []
remark_lines number (first ∷ rest) =
    if first.number == number then first.bytes ++ 10 ∷ remark_lines number rest
    else remark_lines number rest

-- For each statement its comments, and then the statement. Behind the last one stand the comments that are left.
abbrev pub form_from : ℕ → List (List Lexeme) → List Remark → List ℕ
form_from number [] remarks = remark_lines number remarks
form_from number (statement ∷ others) remarks =
    remark_lines number remarks ++ (statement_form statement ++ 10 ∷ form_from (number + 1) others remarks)

-- the canonical text of tokens and comments
abbrev pub form_of : List Lexeme → List Remark → List ℕ
form_of lexemes remarks = form_from 0 (statements false lexemes) remarks

-- that of a text whose pieces are these
abbrev pub form_of_pieces : List Piece → List ℕ
form_of_pieces pieces = form_of (lexemes pieces) (remarks pieces)

-- the text is all tokens, comments and white space, and this is its canonical text
abbrev pub IsFormOf : List ℕ → List ℕ → Type 0
IsFormOf text out = (parts : List Part) × HasParts text parts None × (out ≡ form_of_pieces (pieces_of text parts))

-- the tokens of a text with their bytes
abbrev pub lexemes_at : List ℕ → List Token → List Lexeme
lexemes_at text [] = []
lexemes_at text (first ∷ rest) = lexeme first.kind (slice_range text first.start first.end) ∷ lexemes_at text rest
