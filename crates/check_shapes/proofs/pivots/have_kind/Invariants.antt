use Rattle.std.proofs.Common.{◌≡◌, drop}
use Rattle.std.specs.List.{list_all}
use Rattle.vtl_cell.specs.Kinds.{same_kind}
use Rattle.check_shapes.proofs.pivots.have_kind.Given as goal

abbrev pub invariant-loop-measure : goal.invariant-loop-measure
invariant-loop-measure l = list_all (λ x. same_kind l.kind x.kind) (drop l.measure-index l.measures) ≡ list_all (λ x. same_kind l.kind x.kind) l.measures
