use Rattle.std.proofs.Common.{◌≤◌, ◌+◌, length}
use Rattle.vtl_rerun.proofs.Steps.{HaveRun}
use Rattle.vtl_rerun.proofs.runs.run_stale.Given as goal

abbrev pub invariant-loop-place : goal.invariant-loop-place
invariant-loop-place g l = record {
  state : HaveRun l.script l.parts l.inputs l.fn.results l.place l.results l.ran.items;
  work : g.B.Backend.work l.back ≤ g.B.Backend.work l.fn.back + length l.ran.items;
}
