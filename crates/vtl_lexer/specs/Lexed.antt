-- The tokens of a text.
use Rattle.std.specs.Prelude.{◌≡◌, ◌≢◌, ◌+◌, ℕ, List, [], ◌∷◌, ◌++◌, Option, None, Some, length, drop, nat_eq, if◌then◌else◌}
use Rattle.std.specs.List.{starts_with}
use Rattle.vtl_lexer.specs.Gaps.{IsGap, NoGap}
use Rattle.vtl_lexer.specs.Tokens.{IsToken, NoToken}
use Rattle.vtl_lexer.specs.declared.token.Token.{Token}

-- the text that goes on from this place has these tokens: all of them, or those before the first byte from which none starts, whose place then stands behind them
pub data Lexes : ℕ → List ℕ → List Token → Option ℕ → Type 0 where
  at_end : (at : ℕ) → Lexes at [] [] None
  behind_gap : (at : ℕ) (text bytes rest : List ℕ) (tokens : List Token) (bad : Option ℕ) → text ≡ bytes ++ rest → IsGap bytes rest
      → Lexes (at + length bytes) rest tokens bad → Lexes at text tokens bad
  behind_token : (at : ℕ) (text bytes rest : List ℕ) (token : Token) (tokens : List Token) (bad : Option ℕ) → text ≡ bytes ++ rest → IsToken token.kind bytes rest
      → token.start ≡ at → token.end ≡ at + length bytes → Lexes (at + length bytes) rest tokens bad → Lexes at text (token ∷ tokens) bad
  at_fault : (at : ℕ) (text : List ℕ) → text ≢ [] → NoGap text → NoToken text → Lexes at text [] (Some at)

-- a mark EF BB BF at the start of a text is no part of it
abbrev pub mark_len : List ℕ → ℕ
mark_len text = if starts_with nat_eq text (0xEF ∷ 0xBB ∷ 0xBF ∷ []) then 3 else 0

-- a whole text has these tokens, all or those before the first byte from which none starts
abbrev pub IsLexed : List ℕ → List Token → Option ℕ → Type 0
IsLexed text tokens bad = Lexes (mark_len text) (drop (mark_len text) text) tokens bad
