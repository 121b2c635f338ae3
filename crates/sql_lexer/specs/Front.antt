-- What stands at the front of a text, as the functions that look there tell it.
use Rattle.std.specs.Prelude.{◌≡◌, ◌≤◌, ◌==◌, ℕ, Bool, true, false, not, List, ◌∷◌, ◌++◌, Option, None, Some, length, chars, IsUtf8}
use Rattle.std.specs.Char.{is_ascii_digit}
use Rattle.std.specs.List.{list_all}
use denote.Ref.{Bor}
use Rattle.sql_lexer.specs.Lexed.{IsToken, NoToken}
use Rattle.sql_lexer.specs.Spelling.{doubled, is_name, spelling}
use Rattle.vtl_lists.specs.Runs.{begins_with}
use Rattle.sql_lexer.specs.declared.quotes.Quotes.{Quotes}
use Rattle.sql_lexer.specs.declared.quotes.Quotes.TheVariants as q
use Rattle.sql_lexer.specs.declared.token.TokenKind.{TokenKind}
use Rattle.sql_lexer.specs.declared.token.TokenKind.TheVariants as k
use Rattle.sql_lexer.specs.declared.token.Word.{Word}

-- the longest keyword or mark at the front, with what follows it
abbrev pub IsWordOf : List ℕ → Option (Word × Bor (List ℕ)) → Type 0
IsWordOf text None = (word : Word) (rest : List ℕ) → text ≡ spelling word ++ rest → ⊥
IsWordOf text (Some found) = (text ≡ spelling found.0 ++ chars found.1.now)
    × ((word : Word) (rest : List ℕ) → text ≡ spelling word ++ rest → length (chars found.1.now) ≤ length rest) × IsUtf8 found.1.now

-- the token at the front, with what follows it
pub record IsTokenOf (text : List ℕ) (kind : TokenKind) (rest : List ℕ) : Type 0 where
  pub token : IsToken text kind (chars rest)
  pub utf8 : IsUtf8 rest

abbrev pub IsFoundIn : List ℕ → Option (TokenKind × Bor (List ℕ)) → Type 0
IsFoundIn text None = NoToken text
IsFoundIn text (Some found) = IsTokenOf text found.0 found.1.now

abbrev pub IsNumberIn : List ℕ → Option (TokenKind × Bor (List ℕ)) → Type 0
IsNumberIn text None = begins_with is_ascii_digit text ≡ false
IsNumberIn text (Some found) = IsTokenOf text found.0 found.1.now

-- the characters at the front that pass a test, all in ASCII, and what follows them, by bytes
pub record Run (test : ℕ → Bool) (text front rest : List ℕ) : Type 0 where
  pub split : text ≡ front ++ rest
  pub passes : list_all test front ≡ true
  pub stops : begins_with test (chars rest) ≡ false

abbrev pub EndsIn : List ℕ → List ℕ → Type 0
EndsIn text rest = (front : List ℕ) × (text ≡ front ++ rest)

-- ---- between quotes

abbrev pub mark_of : Quotes → ℕ
mark_of q.Name = 34
mark_of q.Text = 39

abbrev pub allows : Quotes → List ℕ → Bool
allows q.Name content = is_name content
allows q.Text content = true

abbrev pub kind_of : Quotes → List ℕ → TokenKind
kind_of q.Name content = k.Name content
kind_of q.Text content = k.Text content

abbrev pub Lacks : ℕ → List ℕ → Type 0
Lacks c text = list_all (λ d. not (d == c)) text ≡ true

-- behind an opening quote stands this content, a closing quote and this rest
pub record Closes (quotes : Quotes) (body content rest : List ℕ) : Type 0 where
  pub allowed : allows quotes content ≡ true
  pub split : body ≡ doubled (mark_of quotes) content ++ mark_of quotes ∷ rest

-- A quote may be doubled: then the content so far goes on behind it, up to the next quote.
pub record IsPartOf (quotes : Quotes) (content behind part rest : List ℕ) : Type 0 where
  pub allowed : allows quotes (content ++ mark_of quotes ∷ part) ≡ true
  pub split : behind ≡ mark_of quotes ∷ (part ++ mark_of quotes ∷ rest)
  pub plain : Lacks (mark_of quotes) part

abbrev pub IsNextPart : Quotes → List ℕ → List ℕ → Option (Bor (List ℕ) × Bor (List ℕ)) → Type 0
IsNextPart quotes content behind None = (more rest : List ℕ) → allows quotes (content ++ mark_of quotes ∷ more) ≡ true
    → behind ≡ mark_of quotes ∷ (doubled (mark_of quotes) more ++ mark_of quotes ∷ rest) → ⊥
IsNextPart quotes content behind (Some part) = IsPartOf quotes content behind (chars part.0.now) (chars part.1.now) × IsUtf8 part.0.now × IsUtf8 part.1.now
