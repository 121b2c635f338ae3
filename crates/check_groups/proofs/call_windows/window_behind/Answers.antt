use Rattle.std.proofs.Common.{◌≡◌, Some, ap, sym, ◌∙◌, subst}
use Rattle.check_faults.specs.Answers.{Answers}
use Rattle.vtl_syntax.specs.View.{expr_tree}
use Rattle.vtl_tree.specs.NodeView.{node_tree}
use Rattle.check_values.specs.Windows.{window_typed}
use Rattle.check_operators.specs.Places.{columns_at, columns_in}
use Rattle.check_operators.specs.Typed.{typed_tree}
use Rattle.check_groups.specs.Windowed.{over_of, over_window}
use Rattle.check_groups.proofs.call_windows.window_behind.Goals as goal

pub returns-in_ok-at-in-Dataset : goal.returns-in_ok-at-in-Dataset
returns-in_ok-at-in-Dataset c =
    let o = over_of (expr_tree c.args.call.now) in
    let columns : c.columns_at.result.now ≡ columns_in (node_tree c.in-Dataset.node.value) = c.columns_at.ensures ∙ ap columns_at c.in_ok-at-in-Dataset.ensures ∙ ap (λ n. columns_in (node_tree n)) c.deref.ensures in
    let behind : over_window c.args.profile.now c.args.place.now (Some (typed_tree c.args.operand.now)) o ≡ window_typed c.args.profile.now (columns_in (node_tree c.in-Dataset.node.value)) o = ap (λ t. over_window c.args.profile.now c.args.place.now (Some (typed_tree t)) o) c.in-Dataset.is in
    subst (Answers (λ window. window) c.window_of.result) (ap (λ xs. window_typed c.args.profile.now xs o) columns ∙ sym behind) c.window_of.ensures
