use Rattle.std.proofs.Common.{◌≡◌, drop}
use Rattle.std.specs.List.{list_all}
use Rattle.vtl_cell.specs.ScalarKinds.{meets}
use Rattle.vtl_tree.specs.Measures.{measures}
use Rattle.vtl_tree.proofs.operands.all_meet.Given as goal

abbrev pub invariant-loop-component : goal.invariant-loop-component
invariant-loop-component l = list_all (λ x. meets l.kind x.kind) (measures (drop l.component-index l.components)) ≡ list_all (λ x. meets l.kind x.kind) (measures l.components)
