use Rattle.std.proofs.Common.{sym, ◌∙◌}
use Rattle.std.proofs.lemmas.Result.{on_ok_weaker}
use Rattle.vtl_tree.specs.View.{comp_exp_of}
use Rattle.vtl_join_filter.specs.Equalities.{Implies}
use Rattle.vtl_join_filter.proofs.Equations.{all_at, equality_given, operands_given}
use Rattle.vtl_join_filter.proofs.equated.+equated.Goals as goal

pub push_equated-returns-then-is_conjunction : goal.push_equated-returns-then-is_conjunction
push_equated-returns-then-is_conjunction t c =
    let x = c.in-Apply in
    let l = c.as_slice-operands in
    let and = sym c.is_conjunction.ensures ∙ c.if-is_conjunction.true in
    on_ok_weaker c.push_each.result (λ f p e h before. f p e (operands_given p e x.kind x.op c.args.condition.now x.args l.result.now x.is l.ensures.value and h) before) c.push_each.ensures

pub push_equated-returns-then-is_equality : goal.push_equated-returns-then-is_equality
push_equated-returns-then-is_equality t c =
    let x = c.in-Apply in
    let l = c.as_slice-operands in
    let equal = sym c.is_equality.ensures ∙ c.if-is_equality.true in
    on_ok_weaker c.push_columns.result (λ f p e h before. f p e x.kind (equality_given p e x.kind x.op c.args.condition.now x.args l.result.now x.is l.ensures.value equal h) before) c.push_columns.ensures

pub push_each-loop-condition-preserved : goal.push_each-loop-condition-preserved
push_each-loop-condition-preserved t c p e all before =
    c.in_ok-push_equated.ensures p e (all_at (Implies p e) comp_exp_of c.args.conditions.now c.loop-condition.condition-index c.condition-item.result all c.loop-condition-test.true c.condition-item.is) (c.loop-condition.invariant p e all before)
