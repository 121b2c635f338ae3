-- Tokens written one behind the other, parted by white space where they need it: such a text has these tokens and no others (`written-lexed` of proofs/WritingLaws.antt, and the function `written_tokens_are_read`).
-- A printer keeps `Written kinds text` for what it has written so far, by one `more` a token. No gap is needed where the next character does not go on the token before; for `IsApart` see `apart-gap`, `apart-quiet`, `apart-here` and `apart-last` of proofs/WritingLaws.antt.
use Rattle.std.specs.Prelude.{◌≡◌, ◌==◌, ◌&&◌, ◌||◌, nat_le, ℕ, Bool, true, false, List, [], ◌∷◌, ◌++◌}
use Rattle.std.specs.Char.{is_ascii_digit}
use Rattle.std.specs.List.{list_all}
use Rattle.vtl_lists.specs.Runs.{begins_with}
use Rattle.sql_lexer.specs.Lexed.{is_white_space}
use Rattle.sql_lexer.specs.Spelling.{IsFormed, spelled, spelling}
use Rattle.sql_lexer.specs.declared.token.TokenKind.{TokenKind}
use Rattle.sql_lexer.specs.declared.token.TokenKind.TheVariants as k
use Rattle.sql_lexer.specs.declared.token.Word.TheVariants as w

-- a character of a keyword: A-Z or `_`
abbrev pub is_keyword_character : ℕ → Bool
is_keyword_character c = (nat_le 65 c && nat_le c 90) || c == 95

-- whether this character right behind it may make the token a longer one (61 is `=`, 62 is `>`)
abbrev pub goes_on : TokenKind → ℕ → Bool
goes_on (k.Word w.Less) c = c == 61 || c == 62
goes_on (k.Word w.Greater) c = c == 61
goes_on (k.Word word) c = begins_with is_keyword_character (spelling word) && is_keyword_character c
goes_on (k.Name name) c = c == 34
goes_on (k.Text text) c = c == 39
goes_on (k.Int digits) c = is_ascii_digit c || c == 46
goes_on (k.Dec number) c = is_ascii_digit c

-- the same of the last of them
abbrev pub last_goes_on : List TokenKind → ℕ → Bool
last_goes_on [] c = false
last_goes_on (kind ∷ []) c = goes_on kind c
last_goes_on (kind ∷ next ∷ kinds) c = last_goes_on (next ∷ kinds) c

abbrev pub IsGap : List ℕ → Type 0
IsGap gap = list_all is_white_space gap ≡ true

-- what follows these tokens makes none of them longer
abbrev pub IsApart : List TokenKind → List ℕ → Type 0
IsApart kinds text = begins_with (last_goes_on kinds) text ≡ false

-- the text is these tokens in order, with gaps before them
pub data Written : List TokenKind → List ℕ → Type 0 where
  nothing : Written [] []
  more : (kinds : List TokenKind) (kind : TokenKind) (text gap : List ℕ) (all : List TokenKind) (out : List ℕ) → Written kinds text → IsFormed kind → IsGap gap
      → IsApart kinds (gap ++ spelled kind) → all ≡ kinds ++ kind ∷ [] → out ≡ text ++ (gap ++ spelled kind) → Written all out
