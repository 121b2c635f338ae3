use Rattle.std.proofs.Common.{◌≡◌, map, take, Some}
use Rattle.vtl_tree.specs.Shown.{shown}
use Rattle.vtl_join.specs.Finding.{sought_at}
use Rattle.vtl_join.specs.Joining.{sets_of}
use Rattle.vtl_join.proofs.sources.sources_at.Given as goal

abbrev pub invariant-loop-operand : goal.invariant-loop-operand
invariant-loop-operand g l = l.sources.items ≡ map (λ d. Some (sought_at (shown l.identifiers) d)) (sets_of (take l.operand-index l.operands))
