use Rattle.std.proofs.Common.{◌≡◌, ◌++◌, take}
use Rattle.std.specs.Prelude.{map}
use Rattle.std.specs.Option.{option_copied}
use Rattle.vtl_tree.specs.Measures.{given_measure, measures}
use Rattle.check_shapes.proofs.measures.push_each.Given as goal

abbrev pub invariant-loop-component : goal.invariant-loop-component
invariant-loop-component g l = l.out.items ≡ l.fn.out.items ++ map (given_measure (g.F.Operator.gives l.operator) (option_copied l.others)) (measures (take l.component-index l.components))
