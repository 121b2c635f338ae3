use Rattle.std.proofs.Common.{◌-◌, length}
use Rattle.vtl_lexer.proofs.StringLemmas.{EndsSoFar}
use Rattle.vtl_lexer.proofs.quotes.last_end.Given as goal

abbrev pub invariant-loop-plain : goal.invariant-loop-plain
invariant-loop-plain l = EndsSoFar l.text l.last l.from

abbrev pub decreases-loop-plain : goal.decreases-loop-plain
decreases-loop-plain l = length l.text - l.from
