use Rattle.std.proofs.Common.{◌∙◌, ◌+◌, ap, sym}
use Rattle.std.specs.Prelude.{option_and_then}
use Rattle.sql_tree.specs.View.{expr_tree}
use Rattle.sql_meaning.specs.Early.{columns_in}
use Rattle.sql_plan.specs.Reach.{reach}
use Rattle.sql_plan.proofs.Reaches.{branches_left, branches_next, operands_left, operands_next}
use Rattle.sql_plan.proofs.reach.+reached.Goals as goal

pub reach_operands-returns-in_err-last : goal.reach_operands-returns-in_err-last
reach_operands-returns-in_err-last t c =
    let places = c.args.places.now in
    let es = c.args.operands.now in
    let i = c.loop-operand.operand-index in
    let step = operands_next places c.loop-operand.last es i c.operand-item.result c.loop-operand-test.true c.operand-item.is in
    c.from_residual.ensures ∙ sym (step ∙ ap (option_and_then (λ m. reach places m (operands_left es (i + 1)))) (sym c.reach.ensures ∙ c.in_err-last.was)) ∙ c.loop-operand.invariant

pub reach_operands-loop-operand-preserved : goal.reach_operands-loop-operand-preserved
reach_operands-loop-operand-preserved t c =
    let places = c.args.places.now in
    let es = c.args.operands.now in
    let i = c.loop-operand.operand-index in
    let step = operands_next places c.loop-operand.last es i c.operand-item.result c.loop-operand-test.true c.operand-item.is in
    sym (step ∙ ap (option_and_then (λ m. reach places m (operands_left es (i + 1)))) (sym c.reach.ensures ∙ c.in_ok-last.was)) ∙ c.loop-operand.invariant

pub reach_branches-returns-in_err-last : goal.reach_branches-returns-in_err-last
reach_branches-returns-in_err-last t c =
    let places = c.args.places.now in
    let bs = c.args.branches.now in
    let i = c.loop-branch.branch-index in
    let b = c.branch-item.result in
    let step = branches_next places c.loop-branch.last bs i b c.loop-branch-test.true c.branch-item.is in
    c.from_residual.ensures
    ∙ sym (step ∙ ap (λ o. option_and_then (λ m. reach places m (branches_left bs (i + 1))) (option_and_then (λ m. reach places m (columns_in (expr_tree b.value))) o)) (sym c.reach.ensures ∙ c.in_err-last.was))
    ∙ c.loop-branch.invariant

pub reach_branches-returns-in_err-last-2 : goal.reach_branches-returns-in_err-last-2
reach_branches-returns-in_err-last-2 t c =
    let places = c.args.places.now in
    let bs = c.args.branches.now in
    let i = c.loop-branch.branch-index in
    let b = c.branch-item.result in
    let step = branches_next places c.loop-branch.last bs i b c.loop-branch-test.true c.branch-item.is in
    c.from_residual-in_err-last-2.ensures
    ∙ sym (step ∙ ap (λ o. option_and_then (λ m. reach places m (branches_left bs (i + 1))) (option_and_then (λ m. reach places m (columns_in (expr_tree b.value))) o)) (sym c.reach.ensures ∙ c.in_ok-last.was)
    ∙ ap (option_and_then (λ m. reach places m (branches_left bs (i + 1)))) (sym c.reach-in-loop-branch.ensures ∙ c.in_err-last-2.was))
    ∙ c.loop-branch.invariant

pub reach_branches-loop-branch-preserved : goal.reach_branches-loop-branch-preserved
reach_branches-loop-branch-preserved t c =
    let places = c.args.places.now in
    let bs = c.args.branches.now in
    let i = c.loop-branch.branch-index in
    let b = c.branch-item.result in
    let step = branches_next places c.loop-branch.last bs i b c.loop-branch-test.true c.branch-item.is in
    sym (step ∙ ap (λ o. option_and_then (λ m. reach places m (branches_left bs (i + 1))) (option_and_then (λ m. reach places m (columns_in (expr_tree b.value))) o)) (sym c.reach.ensures ∙ c.in_ok-last.was)
    ∙ ap (option_and_then (λ m. reach places m (branches_left bs (i + 1)))) (sym c.reach-in-loop-branch.ensures ∙ c.in_ok-last-2.was))
    ∙ c.loop-branch.invariant
