-- The tokens and the comments of a text, in order.
use Rattle.std.specs.Prelude.{◌≡◌, ◌≢◌, ◌+◌, ◌==◌, ℕ, Bool, true, false, List, [], ◌∷◌, ◌++◌, Option, None, Some, length, drop, if◌then◌else◌}
use Rattle.vtl_lists.specs.Runs.{begins_with}
use Rattle.vtl_lexer.specs.Gaps.{IsGap, NoGap}
use Rattle.vtl_lexer.specs.Lexed.{mark_len}
use Rattle.vtl_lexer.specs.Tokens.{IsToken, NoToken}
use Rattle.vtl_lexer.specs.declared.parts.Comment.{Comment}
use Rattle.vtl_lexer.specs.declared.parts.Part.{Part}
use Rattle.vtl_lexer.specs.declared.parts.Part.TheVariants as p
use Rattle.vtl_lexer.specs.declared.token.Token.{Token}

-- whether what stands between tokens is a comment, and not white space: a comment begins with `/`
abbrev pub is_comment : List ℕ → Bool
is_comment gap = begins_with (λ byte. byte == 47) gap

-- a byte before some, where nothing but carriage returns, 13, is as good as nothing
abbrev pub before_returns : ℕ → List ℕ → List ℕ
before_returns byte [] = if byte == 13 then [] else byte ∷ []
before_returns byte (next ∷ bytes) = byte ∷ next ∷ bytes

-- the bytes without the carriage returns at their end
abbrev pub without_returns : List ℕ → List ℕ
without_returns [] = []
without_returns (byte ∷ bytes) = before_returns byte (without_returns bytes)

-- The text that goes on from this place has these tokens and comments: all of them, or those before the first byte from which none starts, whose place then stands behind them. A comment ends before the carriage returns at the end of its line.
pub data Holds : ℕ → List ℕ → List Part → Option ℕ → Type 0 where
  holds_nothing : (at : ℕ) → Holds at [] [] None
  holds_space : (at : ℕ) (text bytes rest : List ℕ) (parts : List Part) (bad : Option ℕ) → text ≡ bytes ++ rest → IsGap bytes rest → is_comment bytes ≡ false
      → Holds (at + length bytes) rest parts bad → Holds at text parts bad
  holds_comment : (at : ℕ) (text bytes rest : List ℕ) (comment : Comment) (parts : List Part) (bad : Option ℕ) → text ≡ bytes ++ rest → IsGap bytes rest → is_comment bytes ≡ true
      → comment.start ≡ at → comment.end ≡ at + length (without_returns bytes) → Holds (at + length bytes) rest parts bad → Holds at text (p.Comment comment ∷ parts) bad
  holds_token : (at : ℕ) (text bytes rest : List ℕ) (token : Token) (parts : List Part) (bad : Option ℕ) → text ≡ bytes ++ rest → IsToken token.kind bytes rest
      → token.start ≡ at → token.end ≡ at + length bytes → Holds (at + length bytes) rest parts bad → Holds at text (p.Token token ∷ parts) bad
  holds_fault : (at : ℕ) (text : List ℕ) → text ≢ [] → NoGap text → NoToken text → Holds at text [] (Some at)

-- a whole text has these tokens and comments, all or those before the first byte from which none starts
abbrev pub HasParts : List ℕ → List Part → Option ℕ → Type 0
HasParts text parts bad = Holds (mark_len text) (drop (mark_len text) text) parts bad

abbrev pub tokens_of : List Part → List Token
tokens_of [] = []
tokens_of (p.Token token ∷ parts) = token ∷ tokens_of parts
tokens_of (p.Comment comment ∷ parts) = tokens_of parts

abbrev pub comments_of : List Part → List Comment
comments_of [] = []
comments_of (p.Token token ∷ parts) = comments_of parts
comments_of (p.Comment comment ∷ parts) = comment ∷ comments_of parts

-- a whole text has these comments
abbrev pub HasComments : List ℕ → List Comment → Option ℕ → Type 0
HasComments text comments bad = (parts : List Part) × HasParts text parts bad × (comments ≡ comments_of parts)
