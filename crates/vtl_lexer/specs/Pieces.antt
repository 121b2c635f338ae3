-- The tokens and comments of a text by their bytes, wherever they stand.
use Rattle.std.specs.Prelude.{◌≡◌, ◌≤◌, ◌==◌, ◌||◌, ℕ, Bool, true, false, List, [], ◌∷◌, ◌++◌}
use Rattle.std.specs.List.{slice_range}
use Rattle.std.specs.Char.{is_ascii_digit}
use Rattle.std.specs.Str.{IsCharBoundary}
use Rattle.vtl_text.specs.Words.{is_word_character}
use Rattle.vtl_lexer.specs.Gaps.{IsGap, is_white_space}
use Rattle.vtl_lexer.specs.Parts.{is_comment, without_returns}
use Rattle.vtl_lexer.specs.Spelling.{Spells}
use Rattle.vtl_lexer.specs.Tokens.{IsToken}
use Rattle.vtl_lexer.specs.declared.parts.Part.{Part}
use Rattle.vtl_lexer.specs.declared.parts.Part.TheVariants as p
use Rattle.vtl_lexer.specs.declared.token.Sign.TheVariants as s
use Rattle.vtl_lexer.specs.declared.token.Token.{Token}
use Rattle.vtl_lexer.specs.declared.token.TokenKind.{TokenKind}
use Rattle.vtl_lexer.specs.declared.token.TokenKind.TheVariants as k

-- a token with its bytes, or the bytes of a comment
pub data Piece : Type 0 where
  a_token : TokenKind → List ℕ → Piece
  a_comment : List ℕ → Piece

abbrev pub piece_of : List ℕ → Part → Piece
piece_of text (p.Token token) = a_token token.kind (slice_range text token.start token.end)
piece_of text (p.Comment comment) = a_comment (slice_range text comment.start comment.end)

-- what stands in a text at the places of the parts
abbrev pub pieces_of : List ℕ → List Part → List Piece
pieces_of text [] = []
pieces_of text (part ∷ parts) = piece_of text part ∷ pieces_of text parts

-- the text may be cut out from a place to another
pub record IsCut (text : List ℕ) (start end : ℕ) : Type 0 where
  pub ordered : start ≤ end
  pub front : IsCharBoundary text start
  pub back : IsCharBoundary text end

abbrev pub IsCutOf : List ℕ → Token → Type 0
IsCutOf text token = IsCut text token.start token.end

abbrev pub IsCutAt : List ℕ → Part → Type 0
IsCutAt text (p.Token token) = IsCutOf text token
IsCutAt text (p.Comment comment) = IsCut text comment.start comment.end

-- ---- a text that is written piece by piece

-- whether this byte right behind it may make the token a longer one, or none (34 is `"`, 42 `*`, 45 `-`, 46 `.`, 47 `/`, 61 `=`, 62 `>`)
abbrev pub joins : TokenKind → ℕ → Bool
joins (k.Name word) byte = is_word_character byte
joins (k.Keyword keyword) byte = is_word_character byte
joins (k.QuotedName name) byte = false
joins (k.Integer digits) byte = is_ascii_digit byte || byte == 46
joins (k.Decimal number) byte = is_ascii_digit byte
joins (k.String text) byte = byte == 34
joins (k.Sign s.Less) byte = byte == 45 || (byte == 62 || byte == 61)
joins (k.Sign s.Greater) byte = byte == 61
joins (k.Sign s.Colon) byte = byte == 61
joins (k.Sign s.Slash) byte = byte == 42 || byte == 47
joins (k.Sign sign) byte = false

-- The text is these pieces in order, with white space before, between and behind them where it may stand.
pub data Stands : List ℕ → List Piece → Type 0 where
  stands_nothing : Stands [] []
  stands_space : (byte : ℕ) (rest : List ℕ) (pieces : List Piece) → is_white_space byte ≡ true → Stands rest pieces → Stands (byte ∷ rest) pieces
  stands_comment : (text bytes rest : List ℕ) (pieces : List Piece) → text ≡ bytes ++ rest → IsGap bytes rest → is_comment bytes ≡ true
      → Stands rest pieces → Stands text (a_comment (without_returns bytes) ∷ pieces)
  stands_token : (text bytes rest : List ℕ) (kind : TokenKind) (pieces : List Piece) → text ≡ bytes ++ rest → IsToken kind bytes rest
      → Stands rest pieces → Stands text (a_token kind bytes ∷ pieces)

-- the bytes of a comment, which stand for themselves before the end of a line
pub record IsRemark (bytes : List ℕ) : Type 0 where
  pub marked : is_comment bytes ≡ true
  pub whole : without_returns bytes ≡ bytes
  pub gap : (rest : List ℕ) → IsGap bytes (10 ∷ rest)

abbrev pub IsWritable : Piece → Type 0
IsWritable (a_token kind bytes) = Spells kind bytes
IsWritable (a_comment bytes) = IsRemark bytes
