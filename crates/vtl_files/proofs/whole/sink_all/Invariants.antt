use Rattle.std.proofs.Common.{◌≤◌, length, ◌++◌}
use Rattle.vtl_files.specs.Whole.{AddsUpTo}
use Rattle.vtl_files.proofs.whole.sink_all.Given as goal

abbrev pub invariant-loop-rest : goal.invariant-loop-rest
invariant-loop-rest g l = record {
  faults : g.O.Sink.faults l.fn.o ≤ g.O.Sink.faults l.o;
  taken : AddsUpTo (λ front taken. taken ++ front) (g.O.Sink.taken l.fn.o) (g.O.Sink.taken l.o) l.bytes l.rest;
}

abbrev pub decreases-loop-rest : goal.decreases-loop-rest
decreases-loop-rest g l = length l.rest
