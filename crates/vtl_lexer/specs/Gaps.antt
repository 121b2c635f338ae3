-- What may stand between tokens.
use Rattle.std.specs.Prelude.{◌≡◌, ◌==◌, ◌||◌, not, ℕ, Bool, true, false, List, [], ◌∷◌, ◌++◌, codes}
use Rattle.vtl_lexer.specs.Spelling.{Lacks}
use Rattle.vtl_lists.specs.Runs.{begins_with}

-- a space, a tab, a carriage return or a line feed
abbrev pub is_white_space : ℕ → Bool
is_white_space byte = byte == 32 || byte == 9 || byte == 13 || byte == 10

-- no `*/` stands in the bytes
abbrev pub HasNoEnd : List ℕ → Type 0
HasNoEnd bytes = (before behind : List ℕ) → bytes ≡ before ++ (codes "*/" ++ behind) → ⊥

-- these bytes are white space or a comment, before this rest of the text
pub data IsGap (bytes rest : List ℕ) : Type 0 where
  white_space : (byte : ℕ) → bytes ≡ byte ∷ [] → is_white_space byte ≡ true → IsGap bytes rest
  -- up to the line feed, 10, or the end of the text
  line_comment : (inner : List ℕ) → bytes ≡ codes "//" ++ inner → Lacks 10 inner → begins_with (λ byte. not (byte == 10)) rest ≡ false → IsGap bytes rest
  -- up to and with the first `*/`
  block_comment : (inner : List ℕ) → bytes ≡ codes "/*" ++ (inner ++ codes "*/") → HasNoEnd inner → IsGap bytes rest

-- neither starts at the front of this text
abbrev pub NoGap : List ℕ → Type 0
NoGap text = (bytes rest : List ℕ) → text ≡ bytes ++ rest → IsGap bytes rest → ⊥
