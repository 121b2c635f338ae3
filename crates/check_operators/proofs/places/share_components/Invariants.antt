use Rattle.std.proofs.Common.{◌≡◌, take}
use Rattle.check_operators.proofs.places.share_components.Given as goal

abbrev pub invariant-loop-component : goal.invariant-loop-component
invariant-loop-component l = l.out.items ≡ take l.component-index l.components
