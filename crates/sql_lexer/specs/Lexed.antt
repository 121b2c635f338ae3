-- The tokens of a text: each is the longest that starts where it starts, and white space stands between them, or nothing.
use Rattle.std.specs.Prelude.{◌≡◌, ◌≤◌, ◌+◌, ◌==◌, ◌||◌, ℕ, Bool, true, false, List, [], ◌∷◌, ◌++◌, Option, None, Some, length, chars}
use Rattle.sql_lexer.specs.Spelling.{IsFormed, size, spelled}
use Rattle.sql_lexer.specs.declared.token.Token.{Token}
use Rattle.sql_lexer.specs.declared.token.TokenKind.{TokenKind}

-- a space, a tab, a line feed or a carriage return
abbrev pub is_white_space : ℕ → Bool
is_white_space c = c == 32 || c == 9 || c == 10 || c == 13

-- this token stands at the front of the text, with this rest behind it
pub record Starts (text : List ℕ) (kind : TokenKind) (rest : List ℕ) : Type 0 where
  pub formed : IsFormed kind
  pub split : text ≡ spelled kind ++ rest

-- and of the tokens that do, none is longer
pub record IsToken (text : List ℕ) (kind : TokenKind) (rest : List ℕ) : Type 0 where
  pub starts : Starts text kind rest
  pub longest : (other : TokenKind) (behind : List ℕ) → Starts text other behind → length rest ≤ length behind

abbrev pub NoToken : List ℕ → Type 0
NoToken text = (kind : TokenKind) (rest : List ℕ) → Starts text kind rest → ⊥

-- The text that goes on from this byte has these tokens: all of them, or those before the first byte from which none starts, whose place then stands behind them.
pub data Lexes : ℕ → List ℕ → List Token → Option ℕ → Type 0 where
  at_end : (at : ℕ) → Lexes at [] [] None
  behind_space : (at c : ℕ) (rest : List ℕ) (tokens : List Token) (fault : Option ℕ) → is_white_space c ≡ true
      → Lexes (at + 1) rest tokens fault → Lexes at (c ∷ rest) tokens fault
  behind_token : (at : ℕ) (text rest : List ℕ) (token : Token) (tokens : List Token) (fault : Option ℕ) → IsToken text token.kind rest
      → token.start ≡ at → token.end ≡ at + size (spelled token.kind) → Lexes token.end rest tokens fault → Lexes at text (token ∷ tokens) fault
  at_fault : (at c : ℕ) (rest : List ℕ) → is_white_space c ≡ false → NoToken (c ∷ rest) → Lexes at (c ∷ rest) [] (Some at)

-- a text, given by its bytes in UTF-8, has these tokens, all or those before this byte
abbrev pub IsLexed : List ℕ → List Token → Option ℕ → Type 0
IsLexed bytes tokens fault = Lexes 0 (chars bytes) tokens fault

abbrev pub kinds_of : List Token → List TokenKind
kinds_of [] = []
kinds_of (token ∷ tokens) = token.kind ∷ kinds_of tokens
