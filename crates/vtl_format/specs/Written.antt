-- What is still to be written, where some tokens of a statement are held back: the code goes piece by piece, and `written-is_form` says that this is the canonical text.
use Rattle.std.specs.Prelude.{Bool, false, ℕ, List, [], ◌∷◌, ◌++◌, if◌then◌else◌}
use Rattle.vtl_lexer.specs.Pieces.{Piece, a_comment, a_token}
use Rattle.vtl_format.specs.Form.{ends_statement, is_inside, lexeme}
use Rattle.vtl_format.specs.Layout.{Lexeme, statement_form}

-- the last statement, where one has begun
abbrev pub last_form : List Lexeme → List ℕ
last_form [] = []
last_form (first ∷ rest) = statement_form (first ∷ rest) ++ 10 ∷ []

abbrev pub written : Bool → List Lexeme → List Piece → List ℕ
written inside held [] = last_form held
written inside held (a_comment bytes ∷ pieces) = bytes ++ 10 ∷ written inside held pieces
written inside held (a_token kind bytes ∷ pieces) =
    if ends_statement inside kind then statement_form (held ++ lexeme kind bytes ∷ []) ++ 10 ∷ written false [] pieces
    else written (is_inside inside kind) (held ++ lexeme kind bytes ∷ []) pieces
