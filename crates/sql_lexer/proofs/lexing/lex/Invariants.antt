use Rattle.std.proofs.Common.{◌≡◌, ◌≤◌, false, chars, length}
use denote.Text.{Utf8}
use denote.Shadow.{shadow}
use Rattle.sql_lexer.specs.Lexed.{is_white_space}
use Rattle.vtl_lists.specs.Runs.{begins_with}
use Rattle.sql_lexer.proofs.LexedParts.{GoesOn}
use Rattle.sql_lexer.proofs.lexing.lex.Given as goal

-- what was read goes on as the rest does
abbrev pub invariant-loop-rest : goal.invariant-loop-rest
invariant-loop-rest l = record {
  utf8 : shadow (Utf8 l.rest);
  fits : length l.rest ≤ length l.text;
  dark : begins_with is_white_space (chars l.rest) ≡ false;
  goes_on : GoesOn l.text l.rest l.tokens.items;
}

abbrev pub decreases-loop-rest : goal.decreases-loop-rest
decreases-loop-rest l = length l.rest
