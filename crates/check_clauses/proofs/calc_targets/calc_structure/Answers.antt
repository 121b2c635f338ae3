use Rattle.std.proofs.Common.{◌≡◌, ◌∙◌, List, subst}
use Rattle.std.specs.Prelude.{map}
use Rattle.vtl_tree.specs.declared.structure.Component.{Component}
use Rattle.vtl_tree.specs.declared.structure.Structure.{Structure}
use Rattle.vtl_tree.specs.NodeView.{item_tree}
use Rattle.check_faults.specs.Answers.{Answers}
use Rattle.check_shapes.specs.Clauses.{calc_form}
use Rattle.vtl_tree.specs.declared.targets.Target.{Target}
use Rattle.check_clauses.specs.Targets.{target_of}
use Rattle.check_clauses.proofs.calc_targets.calc_structure.Goals as goal

pub returns : goal.returns
returns c =
    let Made : List Component → Type 0 = λ xs. c.in_ok-targets.targets.items ≡ map (target_of xs) (map item_tree c.args.items.now) in
    let Gives : List Target → Type 0 = λ ts. Answers (λ (s : Structure). s) c.calc.result (calc_form ts c.args.structure.now.components) in
    let made = subst Made c.as_slice.ensures c.in_ok-targets.ensures in
    subst Gives (c.deref.ensures.value ∙ made) c.calc.ensures
