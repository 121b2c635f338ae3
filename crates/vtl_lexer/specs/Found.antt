-- What stands at the front of a text, with its size in bytes.
use Rattle.std.specs.Prelude.{◌≡◌, ◌≤◌, ◌+◌, ◌∷◌, ◌++◌, false, true, ℕ, List, Option, None, Some, length, take, drop}
use Rattle.std.specs.Char.{is_ascii_digit}
use Rattle.std.specs.Str.{IsCharBoundary}
use Rattle.vtl_text.specs.Words.{is_word_character}
use Rattle.vtl_lexer.specs.Gaps.{IsGap, NoGap}
use Rattle.vtl_lexer.specs.Parts.{is_comment, without_returns}
use Rattle.vtl_lexer.specs.Spelling.{IsDigits, Spells}
use Rattle.vtl_lists.specs.Runs.{begins_with}
use Rattle.vtl_lexer.specs.Tokens.{IsToken, NoToken, goes_on}
use Rattle.vtl_lexer.specs.declared.token.TokenKind.{TokenKind}
use Rattle.vtl_lexer.specs.declared.finding.Piece.{Piece}
use Rattle.vtl_lexer.specs.declared.finding.Piece.TheVariants as p
use Rattle.vtl_lexer.specs.declared.token.Found.{Found}

pub record IsGapOf (text : List ℕ) (size : ℕ) : Type 0 where
  pub within : size ≤ length text
  pub gap : IsGap (take size text) (drop size text)

pub record IsSpaceOf (text : List ℕ) (size : ℕ) : Type 0 where
  pub gap : IsGapOf text size
  pub plain : is_comment (take size text) ≡ false

-- a comment, and how many of its bytes stand before the carriage returns at its end
pub record IsCommentOf (text : List ℕ) (size content : ℕ) : Type 0 where
  pub gap : IsGapOf text size
  pub marked : is_comment (take size text) ≡ true
  pub kept : content ≡ length (without_returns (take size text))

pub record IsTokenOf (text : List ℕ) (found : Found) : Type 0 where
  pub within : found.size ≤ length text
  pub token : IsToken found.kind (take found.size text) (drop found.size text)

-- the token at the front, if one starts there
abbrev pub IsFoundIn : List ℕ → Option Found → Type 0
IsFoundIn text None = NoToken text
IsFoundIn text (Some found) = IsTokenOf text found

-- what a gap at the front is
abbrev pub IsGapPieceOf : List ℕ → ℕ → Piece → Type 0
IsGapPieceOf text size (p.Space n) = (n ≡ size) × (is_comment (take size text) ≡ false)
IsGapPieceOf text size (p.Comment n content) = (n ≡ size) × (is_comment (take size text) ≡ true) × (content ≡ length (without_returns (take size text)))
IsGapPieceOf text size piece = ⊥

abbrev pub IsPieceOf : List ℕ → Piece → Type 0
IsPieceOf text (p.Space size) = IsSpaceOf text size × IsCharBoundary text size
IsPieceOf text (p.Comment size content) = IsCommentOf text size content × IsCharBoundary text size
IsPieceOf text (p.Token found) = IsTokenOf text found × IsCharBoundary text found.size
IsPieceOf text p.Fault = NoGap text × NoToken text

-- the kind is that of a word
pub record IsWordKind (kind : TokenKind) (bytes : List ℕ) : Type 0 where
  pub spelled : Spells kind bytes
  pub goes_on : (byte : ℕ) → goes_on kind byte ≡ is_word_character byte

-- a point and digits, all that follow
pub record IsFractionOf (text : List ℕ) (size : ℕ) : Type 0 where
  pub digits : List ℕ
  pub rest : List ℕ
  pub split : text ≡ 46 ∷ digits ++ rest
  pub some : IsDigits digits
  pub stops : begins_with is_ascii_digit rest ≡ false
  pub is : size ≡ length digits + 1

-- no digits follow a point at the front
abbrev pub HasNoFraction : List ℕ → Type 0
HasNoFraction text = (digits rest : List ℕ) → text ≡ 46 ∷ digits ++ rest → IsDigits digits → ⊥
