use Rattle.std.proofs.Common.{List, map, ap, sym, subst, ◌∙◌}
use Rattle.vtl_rows.specs.Tables.{Tabled}
use Rattle.vtl_scalar.specs.Answers.{AnswersBy}
use Rattle.vtl_tree.specs.CompExp.{CompExp}
use Rattle.vtl_tree.specs.Shown.{shown}
use Rattle.vtl_tree.specs.Structure.{columns_of}
use Rattle.vtl_tree.specs.View.{comp_exp_of}
use Rattle.vtl_tree.specs.declared.structure.Structure.{Structure}
use Rattle.vtl_tree.specs.NodeView.{item_tree}
use Rattle.vtl_sets.proofs.TableLemmas.{answered_is_table}
use Rattle.vtl_meaning.specs.Made.{AreFor}
use Rattle.vtl_meaning.specs.Operators.{calculated_exp, calculated_of}
use Rattle.vtl_meaning.specs.Points.{each_point}
use Rattle.vtl_meaning.proofs.Kept.{calculated_kept}
use Rattle.vtl_clause.proofs.calculation.calculated_table.Goals as goal

pub each_point-requires-clause-expressions : goal.each_point-requires-clause-expressions
each_point-requires-clause-expressions c =
    let a = c.args.a.now.structure in
    let items = map item_tree c.args.items.now in
    let es = ap (map comp_exp_of) c.deref-2.ensures.value ∙ c.in_ok-exps.ensures ∙ ap (λ (x : Structure). map (calculated_exp items (columns_of x)) (shown c.deref.result.now)) c.structure.ensures.structure
    ∙ ap (map (calculated_exp items (columns_of a))) (ap shown c.deref.ensures.value ∙ c.in_ok-wanted.ensures) in
    subst (λ (l : List CompExp). AreFor c.args.p.now (columns_of a) l (columns_of c.args.made.now)) (sym es) c.requires.columns

pub returns-clause-rows : goal.returns-clause-rows
returns-clause-rows c =
    let a = c.args.a.now in
    let items = map item_tree c.args.items.now in
    let es = ap (map comp_exp_of) c.deref-2.ensures.value ∙ c.in_ok-exps.ensures ∙ ap (λ (x : Structure). map (calculated_exp items (columns_of x)) (shown c.deref.result.now)) c.structure.ensures.structure
    ∙ ap (map (calculated_exp items (columns_of a.structure))) (ap shown c.deref.ensures.value ∙ c.in_ok-wanted.ensures) in
    subst (λ (l : List CompExp). AnswersBy (λ (t : Tabled). t.rows) c.each_point.result (each_point c.args.p.now l a.points)) es c.each_point.ensures.rows

pub returns-clause-table : goal.returns-clause-table
returns-clause-table c =
    let a = c.args.a.now in
    let s = c.args.made.now in
    let p = c.args.p.now in
    let items = map item_tree c.args.items.now in
    answered_is_table s c.each_point.result (calculated_of p items a s) c.each_point.ensures.columns (returns-clause-rows c)
    (λ out e. calculated_kept p items a s out c.requires c.structure.ensures.points e)
