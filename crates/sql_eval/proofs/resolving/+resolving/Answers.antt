use Rattle.std.proofs.Common.{rules, refl, ap, subst, sym, ◌∙◌}
use Rattle.vtl_cell.specs.declared.kind.Kind.TheVariants as k
use Rattle.sql_tree.specs.Trees as tree
use Rattle.sql_tree.specs.View.{branch_tree, expr_tree}
use Rattle.sql_eval.specs.Resolves.{Resolves, sight}
use Rattle.sql_eval.specs.declared.kinded.Kinded.{Kinded}
use Rattle.sql_eval.proofs.ResolvedParts.{aggregate_resolves, both, branch_taken, case_at, in_resolves, mapped, null_resolves, operands_done, tree-Aggregate, tree-Column, tree-Constant, tree-CountAll, tree-Exists}
use Rattle.sql_eval.proofs.Views.{views}
use Rattle.sql_eval.proofs.resolving.+resolving.Goals as goal

pub aggregate-returns : goal.aggregate-returns
aggregate-returns g t c =
    both c.aggregated.result c.aggregated.ensures.kind c.aggregated.ensures.exp
    (λ z kind is. aggregate_resolves c.args.p.now (g.N.Names.tables c.args.names.now) (g.N.Names.scope c.args.names.now) c.args.function (expr_tree c.args.operand.now) c.in_ok-operand.operand z c.in_ok-operand.ensures kind is)

pub all-returns : goal.all-returns
all-returns g t c =
    operands_done (sight c.args.p.now (g.N.Names.tables c.args.names.now) (g.N.Names.scope c.args.names.now) c.args.level.now)
    c.args.exps.now c.loop-e.e-index c.loop-e.operands c.loop-e-test.false c.loop-e.invariant

pub all_branches-loop-branch-preserved : goal.all_branches-loop-branch-preserved
all_branches-loop-branch-preserved g t c =
    let s = sight c.args.p.now (g.N.Names.tables c.args.names.now) (g.N.Names.scope c.args.names.now) c.args.level.now in
    let b = c.branch-item.result in
    let test : Resolves s (branch_tree b).0 c.in_ok-condition.condition = search (rules, views) in
    let chosen : Resolves s (branch_tree b).1 c.in_ok-value.value = search (rules, views) in
    branch_taken s c.args.branches.now c.loop-branch.branch-index b c.in_ok-condition.condition c.in_ok-value.value c.loop-branch.resolved c.put.new.self c.loop-branch-test.true c.branch-item.is test chosen
    (record { branches_are = c.in_ok-put.ensures.branches; kinds_are = c.in_ok-put.ensures.kinds }) c.loop-branch.invariant

pub in_list-returns : goal.in_list-returns
in_list-returns g t c =
    let z : Kinded = record { exp = c.in_ok-membership.field-0; kind = k.Bool } in
    in_resolves (sight c.args.p.now (g.N.Names.tables c.args.names.now) (g.N.Names.scope c.args.names.now) c.args.level.now)
    (expr_tree c.args.operand.now) c.args.negated c.args.literals.now c.in_ok-operand.operand z c.in_ok-operand.ensures refl c.in_ok-membership.ensures

pub is_null-returns : goal.is_null-returns
is_null-returns g t c =
    let z : Kinded = record { exp = c.in_ok-null_test.field-0; kind = k.Bool } in
    null_resolves (sight c.args.p.now (g.N.Names.tables c.args.names.now) (g.N.Names.scope c.args.names.now) c.args.level.now)
    (expr_tree c.args.operand.now) c.args.negated c.in_ok-operand.operand z c.in_ok-operand.ensures refl (c.in_ok-null_test.ensures c.args.p.now)

pub resolve-returns-in-Constant : goal.resolve-returns-in-Constant
resolve-returns-in-Constant g t c =
    let s = sight c.args.p.now (g.N.Names.tables c.args.names.now) (g.N.Names.scope c.args.names.now) c.args.level.now in
    mapped c.constant_of.result c.constant_of.ensures
    (λ z h. subst (λ u. Resolves s u z) (sym (ap expr_tree c.in-Constant.is ∙ tree-Constant c.in-Constant.value)) (h (g.N.Names.tables c.args.names.now) (g.N.Names.scope c.args.names.now) c.args.level.now))

pub resolve-returns-in-Column : goal.resolve-returns-in-Column
resolve-returns-in-Column g t c =
    let s = sight c.args.p.now (g.N.Names.tables c.args.names.now) (g.N.Names.scope c.args.names.now) c.args.level.now in
    subst (λ u. Resolves s u c.column.result) (sym (ap expr_tree c.in-Column.is ∙ tree-Column c.in-Column.name)) (c.column.ensures c.args.p.now)

pub resolve-returns-in-CountAll : goal.resolve-returns-in-CountAll
resolve-returns-in-CountAll g t c =
    let s = sight c.args.p.now (g.N.Names.tables c.args.names.now) (g.N.Names.scope c.args.names.now) c.args.level.now in
    subst (λ u. Resolves s u c.count_all.result) (sym (ap expr_tree c.in-CountAll.is ∙ tree-CountAll)) (c.count_all.ensures s)

pub resolve-returns-in-Aggregate : goal.resolve-returns-in-Aggregate
resolve-returns-in-Aggregate g t c =
    let s = sight c.args.p.now (g.N.Names.tables c.args.names.now) (g.N.Names.scope c.args.names.now) c.args.level.now in
    let f = c.in-Aggregate.function in
    mapped c.aggregate.result c.aggregate.ensures
    (λ z h. subst (λ u. Resolves s u z) (sym (ap expr_tree c.in-Aggregate.is ∙ tree-Aggregate f c.in-Aggregate.operand ∙ ap (λ e. tree.aggregate f (expr_tree e)) (sym c.deref-in-Aggregate.ensures))) (h c.args.level.now))

pub resolve-returns-in_ok-other-in-Case : goal.resolve-returns-in_ok-other-in-Case
resolve-returns-in_ok-other-in-Case g t c =
    let s = sight c.args.p.now (g.N.Names.tables c.args.names.now) (g.N.Names.scope c.args.names.now) c.args.level.now in
    both c.choice.result c.choice.ensures.kind c.choice.ensures.exp
    (λ z kind is. case_at s c.args.e.now c.in-Case.branches c.in-Case.other c.in-Case.is c.deref-in-Case.result.now c.deref-in-Case.ensures.value c.deref-in-Case-2.result.now c.deref-in-Case-2.ensures
    c.in_ok-branches-in-Case.branches c.in_ok-other-in-Case.other z c.in_ok-branches-in-Case.ensures c.in_ok-other-in-Case.ensures kind is)

pub resolve-returns-in-Exists : goal.resolve-returns-in-Exists
resolve-returns-in-Exists g t c =
    let s = sight c.args.p.now (g.N.Names.tables c.args.names.now) (g.N.Names.scope c.args.names.now) c.args.level.now in
    mapped c.exists.result c.exists.ensures
    (λ z h. subst (λ u. Resolves s u z) (sym (ap expr_tree c.in-Exists.is ∙ tree-Exists c.in-Exists.source c.in-Exists.equalities ∙ ap (tree.exists c.in-Exists.source) (sym c.as_slice-in-Exists.ensures))) (h c.args.p.now))
