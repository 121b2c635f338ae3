-- Which token starts at the front of a text.
use Rattle.std.specs.Prelude.{◌≡◌, ◌≤◌, ◌==◌, ◌||◌, ℕ, Bool, false, List, [], ◌∷◌, ◌++◌, length}
use Rattle.vtl_lists.specs.Runs.{begins_with}
use Rattle.vtl_text.specs.Words.{is_word_character}
use Rattle.vtl_lexer.specs.Spelling.{Spells}
use Rattle.vtl_lexer.specs.declared.token.Sign.TheVariants as s
use Rattle.vtl_lexer.specs.declared.token.TokenKind.{TokenKind}
use Rattle.vtl_lexer.specs.declared.token.TokenKind.TheVariants as k

-- whether a byte right behind it makes the token a part of something else: of a longer word, or of the start of a comment (42 is `*`, 47 is `/`)
abbrev pub goes_on : TokenKind → ℕ → Bool
goes_on (k.Name word) byte = is_word_character byte
goes_on (k.Keyword keyword) byte = is_word_character byte
goes_on (k.Sign s.Slash) byte = byte == 42 || byte == 47
goes_on kind byte = false

-- these bytes are a token before this rest of the text: it ends here, and no front of the text that spells a token is longer
pub record IsToken (kind : TokenKind) (bytes rest : List ℕ) : Type 0 where
  pub spelled : Spells kind bytes
  pub ends : begins_with (goes_on kind) rest ≡ false
  pub longest : (other : TokenKind) (more behind : List ℕ) → bytes ++ rest ≡ more ++ behind → Spells other more → length more ≤ length bytes

-- no token starts at the front of this text
abbrev pub NoToken : List ℕ → Type 0
NoToken text = (kind : TokenKind) (bytes rest : List ℕ) → text ≡ bytes ++ rest → IsToken kind bytes rest → ⊥
