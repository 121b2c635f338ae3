use Rattle.std.proofs.Common.{◌≡◌, ◌<◌, ◌++◌, ℕ, List, chars}
use Rattle.sql_lexer.specs.Spelling.{spelling}
use Rattle.sql_lexer.proofs.Table.{word_at}
use Rattle.sql_lexer.proofs.words.word_at_front.Given as goal

-- none of the words so far is at the front
abbrev pub invariant-loop-word : goal.invariant-loop-word
invariant-loop-word l = (j : ℕ) → j < l.word-index → (left : List ℕ) → chars l.text ≡ spelling (word_at j) ++ left → ⊥
