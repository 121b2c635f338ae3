use Rattle.std.proofs.Common.{◌≡◌, [], drop}
use Rattle.vtl_rerun.specs.Operands.{written_behind}
use Rattle.vtl_rerun.proofs.written.written.Given as goal

abbrev pub invariant-loop-place : goal.invariant-loop-place
invariant-loop-place l = written_behind l.outputs (drop l.place l.parts) (drop l.place l.results) ≡ written_behind [] l.parts l.results
