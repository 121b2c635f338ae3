use Rattle.std.proofs.Common.{◌≡◌, drop}
use Rattle.std.specs.Option.{option_copied}
use Rattle.vtl_tree.specs.Measures.{any_unmet}
use Rattle.check_shapes.proofs.measures.any_unmet.Given as goal

abbrev pub invariant-loop-component : goal.invariant-loop-component
invariant-loop-component g l = any_unmet (g.F.Operator.gives l.operator) (option_copied l.others) (drop l.component-index l.components) ≡ any_unmet (g.F.Operator.gives l.operator) (option_copied l.others) l.components
