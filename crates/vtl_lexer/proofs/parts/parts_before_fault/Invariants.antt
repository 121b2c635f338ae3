-- What is read goes on as the rest does.
use Rattle.std.proofs.Common.{◌≡◌, ◌+◌, length, IsUtf8}
use Rattle.vtl_lexer.proofs.PartLemmas.{GoesOn}
use Rattle.vtl_lexer.proofs.parts.parts_before_fault.Given as goal

abbrev pub invariant-loop-rest : goal.invariant-loop-rest
invariant-loop-rest l = record {
  utf8 : IsUtf8 l.rest;
  size : l.at + length l.rest ≡ length l.text;
  goes_on : GoesOn l.text l.rest l.at l.parts.items;
}

abbrev pub decreases-loop-rest : goal.decreases-loop-rest
decreases-loop-rest l = length l.rest
