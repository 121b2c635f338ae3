use Rattle.std.proofs.Common.{◌≡◌, ◌++◌, map, take, Some}
use Rattle.vtl_join.specs.Finding.{sought_beside}
use Rattle.vtl_join.specs.Joining.{sets_of}
use Rattle.vtl_join.proofs.sources.push_beside.Given as goal

abbrev pub invariant-loop-operand : goal.invariant-loop-operand
invariant-loop-operand g l = l.sources.items ≡ l.fn.sources.items ++ map (λ d. Some (sought_beside l.asking d)) (sets_of (take l.operand-index l.operands))
