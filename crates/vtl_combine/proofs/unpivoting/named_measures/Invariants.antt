use Rattle.std.proofs.Common.{◌≡◌, map, take}
use Rattle.std.specs.List.{filter}
use Rattle.vtl_tree.specs.Shown.{shown}
use Rattle.vtl_tree.specs.Structure.{same_role}
use Rattle.vtl_tree.specs.declared.structure.Role.TheVariants as role
use Rattle.vtl_combine.specs.Unpivots.{measure_by, measure_in}
use Rattle.vtl_combine.proofs.unpivoting.named_measures.Given as goal

abbrev pub invariant-loop-component : goal.invariant-loop-component
invariant-loop-component l = map measure_by l.measures.items ≡ map (measure_in (shown l.columns.items)) (filter (λ x. same_role x.role role.Measure) (take l.component-index l.component-items))
