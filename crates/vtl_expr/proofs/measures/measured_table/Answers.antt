use Rattle.std.proofs.Common.{List, map, ap, sym, subst, ◌∙◌}
use Rattle.vtl_rows.specs.Tables.{Tabled}
use Rattle.vtl_scalar.specs.Answers.{AnswersBy}
use Rattle.vtl_tree.specs.CompExp.{CompExp}
use Rattle.vtl_tree.specs.Structure.{columns_of}
use Rattle.vtl_tree.specs.View.{comp_exp_of}
use Rattle.vtl_tree.specs.declared.structure.Structure.{Structure}
use Rattle.vtl_tree.specs.NodeView.{measure_tree}
use Rattle.vtl_sets.proofs.TableLemmas.{answered_is_table}
use Rattle.vtl_meaning.specs.Made.{AreFor}
use Rattle.vtl_meaning.specs.Operators.{measured_exps, measured_of}
use Rattle.vtl_meaning.specs.Points.{each_point}
use Rattle.vtl_meaning.proofs.Kept.{measured_kept}
use Rattle.vtl_expr.proofs.measures.measured_table.Goals as goal

pub each_point-requires-clause-expressions : goal.each_point-requires-clause-expressions
each_point-requires-clause-expressions c =
    let a = c.args.a.now.structure in
    let s = c.args.made.now in
    let m = measure_tree c.args.op.now in
    let es = ap (map comp_exp_of) c.deref.ensures.value ∙ c.in_ok-exps.ensures ∙ ap (λ (x : Structure). measured_exps m x s) c.structure.ensures.structure in
    subst (λ (l : List CompExp). AreFor c.args.p.now (columns_of a) l (columns_of s)) (sym es) c.requires.columns

pub returns-clause-rows : goal.returns-clause-rows
returns-clause-rows c =
    let s = c.args.made.now in
    let m = measure_tree c.args.op.now in
    let es = ap (map comp_exp_of) c.deref.ensures.value ∙ c.in_ok-exps.ensures ∙ ap (λ (x : Structure). measured_exps m x s) c.structure.ensures.structure in
    subst (λ (l : List CompExp). AnswersBy (λ (t : Tabled). t.rows) c.each_point.result (each_point c.args.p.now l c.args.a.now.points)) es c.each_point.ensures.rows

pub returns-clause-table : goal.returns-clause-table
returns-clause-table c =
    let a = c.args.a.now in
    let p = c.args.p.now in
    let s = c.args.made.now in
    let m = measure_tree c.args.op.now in
    let es = ap (map comp_exp_of) c.deref.ensures.value ∙ c.in_ok-exps.ensures ∙ ap (λ (x : Structure). measured_exps m x s) c.structure.ensures.structure in
    answered_is_table s c.each_point.result (measured_of p m a s) c.each_point.ensures.columns
    (subst (λ (l : List CompExp). AnswersBy (λ (t : Tabled). t.rows) c.each_point.result (each_point p l a.points)) es c.each_point.ensures.rows)
    (λ out e. measured_kept p m a s out c.requires c.structure.ensures.points e)
