use Rattle.std.proofs.Common.{◌≡◌, ◌∙◌, ◌+◌, map, ap, sym, subst, rules}
use Rattle.std.specs.Prelude.{List}
use Rattle.sql_tree.specs.Trees as tree
use Rattle.sql_tree.specs.Trees.{Exp, branches_of, exps_of}
use Rattle.sql_tree.specs.View.{branch_tree, expr_tree}
use Rattle.sql_tree.specs.declared.expressions.Branch.{Branch}
use Rattle.sql_tree.specs.declared.expressions.SqlExpr as expr
use Rattle.sql_tree.specs.declared.expressions.SqlExpr.{SqlExpr}
use Rattle.sql_engine.specs.LastReads.{IsNoted}
use Rattle.sql_engine.specs.Reads.{EachOfAll, EachOfBranches, EachRead}
use Rattle.sql_engine.proofs.Noting.{BranchesLeft, EachLeft, both_noted, branch_next, on_ok, one_noted, operand_next}
use Rattle.sql_engine.proofs.expression_reads.+noted.Goals as goal

pub note_branches-loop-branch-preserved : goal.note_branches-loop-branch-preserved
note_branches-loop-branch-preserved t c =
    let p = c.args.place in
    let a = c.args.last.now in
    let b = c.loop-branch.last in
    let d = c.note_expression.new.last in
    let e = c.note_expression-in-loop-branch.new.last in
    let x = c.branch-item.result in
    let bs = c.args.branches.now in
    let i = c.loop-branch.branch-index in
    let one = both_noted p b d e (λ P. EachRead P (expr_tree x.condition)) (λ P. EachRead P (expr_tree x.value)) c.in_ok-note_expression.ensures c.in_ok-note_expression-2.ensures in
    one_noted p a b e (λ P. EachRead P (expr_tree x.condition) × EachRead P (expr_tree x.value)) (BranchesLeft bs i) (BranchesLeft bs (i + 1)) (BranchesLeft bs 0) c.loop-branch.invariant one (branch_next bs i x c.loop-branch-test.true c.branch-item.is)

pub note_expression-returns-in_ok-note_expression-in-Binary :
    goal.note_expression-returns-in_ok-note_expression-in-Binary
note_expression-returns-in_ok-note_expression-in-Binary t c =
    let p = c.args.place in
    let a = c.args.last.now in
    let b = c.note_expression.new.last in
    let d = c.note_expression-in-Binary.new.last in
    let l = c.in-Binary.left.value in
    let r = c.in-Binary.right.value in
    let is : expr_tree c.args.expression.now ≡ tree.binary (expr_tree l) c.in-Binary.op (expr_tree r) = ap expr_tree c.in-Binary.is ∙ search (rules, expr.the_lemmas) in
    let one = subst (λ (x : SqlExpr). IsNoted p a b (λ P. EachRead P (expr_tree x))) c.deref.ensures c.in_ok-note_expression-in-Binary.ensures in
    on_ok c.note_expression-in-Binary.result (IsNoted p b d (λ P. EachRead P (expr_tree c.deref-in-Binary.result.now))) (IsNoted p a d (λ P. EachRead P (expr_tree c.args.expression.now)))
    (λ two. subst (λ (x : Exp). IsNoted p a d (λ P. EachRead P x)) (sym is)
    (both_noted p a b d (λ P. EachRead P (expr_tree l)) (λ P. EachRead P (expr_tree r)) one (subst (λ (x : SqlExpr). IsNoted p b d (λ P. EachRead P (expr_tree x))) c.deref-in-Binary.ensures two)))
    c.note_expression-in-Binary.ensures

pub note_expression-returns-in-Call : goal.note_expression-returns-in-Call
note_expression-returns-in-Call t c =
    let p = c.args.place in
    let a = c.args.last.now in
    let b = c.note_operands.new.last in
    let is : expr_tree c.args.expression.now ≡ tree.call c.in-Call.function (exps_of (map expr_tree c.in-Call.operands.items)) = ap expr_tree c.in-Call.is ∙ search (rules, expr.the_lemmas) in
    on_ok c.note_operands.result (IsNoted p a b (λ P. EachOfAll P (exps_of (map expr_tree c.deref-in-Call.result.now)))) (IsNoted p a b (λ P. EachRead P (expr_tree c.args.expression.now)))
    (λ one. subst (λ (x : Exp). IsNoted p a b (λ P. EachRead P x)) (sym is) (subst (λ (l : List SqlExpr). IsNoted p a b (λ P. EachOfAll P (exps_of (map expr_tree l)))) c.deref-in-Call.ensures.value one))
    c.note_operands.ensures

pub note_expression-returns-in_ok-note_branches-in-Case :
    goal.note_expression-returns-in_ok-note_branches-in-Case
note_expression-returns-in_ok-note_branches-in-Case t c =
    let p = c.args.place in
    let a = c.args.last.now in
    let b = c.note_branches.new.last in
    let d = c.note_expression-in-Case.new.last in
    let bs = c.in-Case.branches.items in
    let r = c.in-Case.other.value in
    let is : expr_tree c.args.expression.now ≡ tree.case_when (branches_of (map branch_tree bs)) (expr_tree r) = ap expr_tree c.in-Case.is ∙ search (rules, expr.the_lemmas) in
    let one = subst (λ (l : List Branch). IsNoted p a b (λ P. EachOfBranches P (branches_of (map branch_tree l)))) c.deref-in-Case.ensures.value c.in_ok-note_branches-in-Case.ensures in
    on_ok c.note_expression-in-Case.result (IsNoted p b d (λ P. EachRead P (expr_tree c.deref-in-Case-2.result.now))) (IsNoted p a d (λ P. EachRead P (expr_tree c.args.expression.now)))
    (λ two. subst (λ (x : Exp). IsNoted p a d (λ P. EachRead P x)) (sym is)
    (both_noted p a b d (λ P. EachOfBranches P (branches_of (map branch_tree bs))) (λ P. EachRead P (expr_tree r)) one (subst (λ (x : SqlExpr). IsNoted p b d (λ P. EachRead P (expr_tree x))) c.deref-in-Case-2.ensures two)))
    c.note_expression-in-Case.ensures

pub note_operands-loop-operand-preserved : goal.note_operands-loop-operand-preserved
note_operands-loop-operand-preserved t c =
    let p = c.args.place in
    let a = c.args.last.now in
    let b = c.loop-operand.last in
    let d = c.note_expression.new.last in
    let x = c.operand-item.result in
    let es = c.args.operands.now in
    let i = c.loop-operand.operand-index in
    one_noted p a b d (λ P. EachRead P (expr_tree x)) (EachLeft es i) (EachLeft es (i + 1)) (EachLeft es 0) c.loop-operand.invariant c.in_ok-note_expression.ensures (operand_next es i x c.loop-operand-test.true c.operand-item.is)
