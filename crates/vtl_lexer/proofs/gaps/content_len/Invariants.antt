-- Nothing but carriage returns was passed.
use Rattle.std.proofs.Common.{◌≡◌, ◌≤◌, length, take}
use Rattle.vtl_lexer.specs.Parts.{without_returns}
use Rattle.vtl_lexer.proofs.gaps.content_len.Given as goal

abbrev pub invariant-loop-size : goal.invariant-loop-size
invariant-loop-size l = record {
  within : l.size ≤ length l.gap;
  same : without_returns l.gap ≡ without_returns (take l.size l.gap);
}

abbrev pub decreases-loop-size : goal.decreases-loop-size
decreases-loop-size l = l.size
