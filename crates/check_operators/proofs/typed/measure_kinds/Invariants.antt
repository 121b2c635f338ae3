use Rattle.std.proofs.Common.{◌≡◌, take}
use Rattle.check_operators.specs.Typed.{measure_kinds}
use Rattle.check_operators.proofs.typed.measure_kinds.Given as goal

abbrev pub invariant-loop-component : goal.invariant-loop-component
invariant-loop-component l = l.kinds.items ≡ measure_kinds (take l.component-index l.components)
