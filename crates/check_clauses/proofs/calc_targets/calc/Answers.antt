use Rattle.std.proofs.Common.{List, Result, Err, map, subst, sym}
use Rattle.check_faults.specs.declared.rules.Rule.{Rule}
use Rattle.vtl_tree.specs.NodeView.{item_tree}
use Rattle.vtl_tree.specs.declared.clauses.CalcItem.{CalcItem}
use Rattle.vtl_tree.specs.declared.structure.Component.{Component}
use Rattle.vtl_tree.specs.declared.structure.Structure.{Structure}
use Rattle.check_faults.specs.Answers.{Answers}
use Rattle.check_operators.specs.Typed.{boxed_tree, components_in}
use Rattle.check_shapes.specs.Clauses.{calc_form}
use Rattle.check_clauses.specs.Clauses.{made_of}
use Rattle.check_clauses.specs.Targets.{calc_clause, calc_tree, target_of}
use Rattle.check_clauses.specs.TargetsView.{items_view}
use Rattle.check_clauses.proofs.ClauseErrors.{components-there, refused}
use Rattle.check_clauses.proofs.calc_targets.calc.Goals as goal

pub returns-in-Err : goal.returns-in-Err
unfolding calc_clause
returns-in-Err c =
    let n = boxed_tree c.args.operand in
    let items = items_view c.args.items in
    let form : List Component → List CalcItem → Result Structure Rule = λ xs is. calc_form (map (target_of xs) (map item_tree is)) xs in
    let told : Answers (λ s. s) (Err c.in-Err.error) (form c.deref.result.now.structure.components c.deref-2.result.now) =
    subst (λ r. Answers (λ s. s) r (form c.deref.result.now.structure.components c.deref-2.result.now)) c.in-Err.is c.calc_structure.ensures in
    let of_node : Answers (λ s. s) (Err c.in-Err.error) (form c.args.operand.value.structure.components c.deref-2.result.now) =
    subst (λ v. Answers (λ s. s) (Err c.in-Err.error) (form v.structure.components c.deref-2.result.now)) c.deref.ensures told in
    let of_items : Answers (λ s. s) (Err c.in-Err.error) (form c.args.operand.value.structure.components c.args.items.items) =
    subst (λ is. Answers (λ s. s) (Err c.in-Err.error) (form c.args.operand.value.structure.components is)) c.deref-2.ensures.value of_node in
    refused (λ s. s) boxed_tree c.in-Err.error (form (components_in n) c.args.items.items) (made_of (calc_tree n items))
    (subst (λ xs. Answers (λ s. s) (Err c.in-Err.error) (form xs c.args.items.items)) (sym (components-there c.args.operand)) of_items)
