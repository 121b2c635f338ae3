use Rattle.std.proofs.Common.{chars, length, string_bytes}
use denote.Text.{Utf8}
use denote.Shadow.{shadow}
use Rattle.sql_lexer.proofs.Quoting.{Reached}
use Rattle.sql_lexer.proofs.quotes.quoted.Given as goal

-- the content ends before `behind`
abbrev pub invariant-loop-part : goal.invariant-loop-part
invariant-loop-part l = record {
  utf8 : shadow (Utf8 l.behind);
  reached : Reached l.quotes (chars l.body) (chars (string_bytes l.content)) (chars l.behind);
}

abbrev pub decreases-loop-part : goal.decreases-loop-part
decreases-loop-part l = length (chars l.behind)
