use Rattle.std.proofs.Common.{◌≡◌, ◌<◌, ◌^◌, ◌++◌}
use Rattle.std.specs.Fmt.{decimal}
use Rattle.vtl_decimal.proofs.writing.push_whole.Given as goal

abbrev pub invariant-loop-rest : goal.invariant-loop-rest
invariant-loop-rest l = record {
  same : decimal l.rest ++ l.line ≡ decimal l.n ++ l.initial.line;
  fits : l.rest < 10 ^ 19;
}

abbrev pub decreases-loop-rest : goal.decreases-loop-rest
decreases-loop-rest l = l.rest
