use Rattle.std.proofs.Common.{◌≡◌, drop}
use Rattle.vtl_rerun.specs.Lost.{left_from}
use Rattle.vtl_rerun.proofs.lost.let_go.Given as goal

abbrev pub invariant-loop-place : goal.invariant-loop-place
invariant-loop-place l = left_from l.place l.replaced (drop l.place l.parts) l.results ≡ left_from 0 l.replaced l.parts l.fn.results
