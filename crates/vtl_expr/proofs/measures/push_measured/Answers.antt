use Rattle.std.proofs.Common.{◌<◌, ◌≤◌, ◌++◌, List, min, length, map, ap, subst, ◌∙◌}
use Rattle.vtl_tree.specs.Shown.{shown}
use Rattle.vtl_tree.specs.Structure.{columns_of}
use Rattle.vtl_tree.specs.View.{comp_exp_of}
use Rattle.vtl_tree.specs.declared.structure.Component.{Component}
use Rattle.vtl_tree.specs.NodeView.{measure_tree}
use Rattle.vtl_meaning.specs.Operators.{with_measure}
use Rattle.vtl_expr.proofs.MeasureLemmas.{for_measures_all, pushed}
use Rattle.vtl_expr.proofs.measures.push_measured.Goals as goal

pub loop-i-preserved : goal.loop-i-preserved
loop-i-preserved c =
    let xs = c.args.measures.now in
    let ys = c.args.made.now in
    let x = c.index-measures-i.result in
    let y = c.index-made-i.result in
    let m = measure_tree c.args.op.now in
    let within : c.loop-i.i < min (length xs) (length ys) = subst (λ n. c.loop-i.i < n) c.min-i-end.ensures c.loop-i-test.true in
    let columns = ap shown c.deref.ensures.value ∙ c.in_ok-columns.ensures in
    let made = c.in_ok-with_measure.ensures ∙ ap (λ (l : List Component). with_measure m l x.now y.now) columns in
    pushed (with_measure m (columns_of c.args.structure.now)) c.loop-i.exps.items c.push.new.self.items c.in_ok-with_measure.field-0 (map comp_exp_of c.args.exps.now.items) xs ys c.loop-i.i x y
    c.in_ok-push.ensures.items c.loop-i.invariant made within c.index-measures-i.is c.index-made-i.is

pub returns : goal.returns
returns c =
    let xs = c.args.measures.now in
    let ys = c.args.made.now in
    let f = with_measure (measure_tree c.args.op.now) (columns_of c.args.structure.now) in
    let all : min (length xs) (length ys) ≤ c.loop-i.i = subst (λ n. n ≤ c.loop-i.i) c.min-i-end.ensures c.loop-i-test.false in
    c.loop-i.invariant ∙ ap (λ l. map comp_exp_of c.args.exps.now.items ++ l) (for_measures_all f xs ys c.loop-i.i all)
