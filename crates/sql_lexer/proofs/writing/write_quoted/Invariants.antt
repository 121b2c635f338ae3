use Rattle.std.proofs.Common.{◌≡◌, ◌∷◌, ◌++◌, chars, length, string_bytes}
use denote.Text.{Utf8}
use denote.Shadow.{shadow}
use Rattle.sql_lexer.specs.Front.{mark_of}
use Rattle.sql_lexer.specs.Spelling.{doubled}
use Rattle.sql_lexer.proofs.writing.write_quoted.Given as goal

-- what is written, with the rest doubled, is the whole doubled
abbrev pub invariant-loop-plain : goal.invariant-loop-plain
invariant-loop-plain l = record {
  utf8 : shadow (Utf8 l.rest);
  written : chars (string_bytes l.out) ++ doubled (mark_of l.quotes) (chars l.rest) ≡ chars (string_bytes l.fn.out) ++ mark_of l.quotes ∷ doubled (mark_of l.quotes) (chars l.text);
}

abbrev pub decreases-loop-plain : goal.decreases-loop-plain
decreases-loop-plain l = length (chars l.rest)
