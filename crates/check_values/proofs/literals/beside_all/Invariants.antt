use Rattle.std.proofs.Common.{◌≡◌, drop}
use Rattle.check_values.specs.Literals.{beside_all}
use Rattle.check_values.proofs.literals.beside_all.Given as goal

abbrev pub invariant-loop-kind : goal.invariant-loop-kind
invariant-loop-kind l = beside_all (drop l.kind-index l.kinds) l.given ≡ beside_all l.kinds l.given
