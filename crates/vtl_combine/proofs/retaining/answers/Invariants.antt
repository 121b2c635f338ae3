use Rattle.std.proofs.Common.{◌≡◌, length, map, take}
use Rattle.std.specs.Prelude.{nat_lt}
use Rattle.vtl_combine.proofs.retaining.answers.Given as goal

abbrev pub invariant-loop-first : goal.invariant-loop-first
invariant-loop-first g l = l.answers.items ≡ map (λ i. nat_lt i (length l.seeker.rows)) (take l.first-index l.first-items)
