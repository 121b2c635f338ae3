-- Where a byte, or the end of a comment, stands first.
use Rattle.std.specs.Prelude.{◌≡◌, ◌<◌, ◌≤◌, ◌+◌, ℕ, List, ◌∷◌, ◌++◌, length, take, drop, codes}
use Rattle.vtl_lexer.specs.Gaps.{HasNoEnd}
use Rattle.vtl_lexer.specs.Spelling.{Lacks}

-- the byte stands at this place, and at none before
pub record StandsFirst (byte : ℕ) (text : List ℕ) (place : ℕ) : Type 0 where
  pub within : place < length text
  pub lacks : Lacks byte (take place text)
  pub split : text ≡ take place text ++ byte ∷ drop (place + 1) text

-- the first `*/` stands at this place
pub record EndsFirst (text : List ℕ) (place : ℕ) : Type 0 where
  pub within : place + 2 ≤ length text
  pub none : HasNoEnd (take place text)
  pub split : text ≡ take place text ++ (codes "*/" ++ drop (place + 2) text)
