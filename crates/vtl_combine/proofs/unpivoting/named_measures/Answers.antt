use Rattle.std.proofs.Common.{arith, ◌∙◌, ap, map, take, List}
use Rattle.std.proofs.lemmas.Grind.{common_steps}
use Rattle.std.specs.List.{filter}
use Rattle.std.proofs.lemmas.List.{take_all}
use Rattle.vtl_tree.specs.Structure.{columns_of, same_role}
use Rattle.vtl_tree.specs.declared.structure.Component.{Component}
use Rattle.vtl_combine.specs.Unpivots.{measure_in}
use Rattle.vtl_tree.specs.declared.structure.Role.TheVariants as role
use Rattle.vtl_combine.proofs.unpivoting.named_measures.Goals as goal

pub loop-component-preserved : goal.loop-component-preserved
loop-component-preserved c = grind (arith, common_steps)

pub returns : goal.returns
returns c =
    let items = c.as_slice-component-items.result.now in
    let i = c.loop-component.component-index in
    c.loop-component.invariant ∙ ap (λ (xs : List Component). map (measure_in xs) (filter (λ x. same_role x.role role.Measure) (take i items))) c.in_ok-columns.ensures
    ∙ ap (λ (l : List Component). map (measure_in (columns_of c.args.structure.now)) (filter (λ x. same_role x.role role.Measure) l)) (take_all i items c.loop-component-test.false ∙ c.as_slice-component-items.ensures)
