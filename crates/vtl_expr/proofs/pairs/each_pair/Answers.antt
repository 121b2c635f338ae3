use Rattle.std.proofs.Common.{List, map, ap, sym, subst, ◌∙◌}
use Rattle.vtl_cell.specs.Row.{Row}
use Rattle.vtl_cell.specs.Outcome.{Outcome}
use Rattle.vtl_rows.specs.Tables.{Tabled}
use Rattle.vtl_scalar.specs.Answers.{AnswersBy}
use Rattle.vtl_tree.specs.View.{comp_exp_of}
use Rattle.vtl_tree.specs.declared.structure.Structure.{Structure}
use Rattle.vtl_sets.specs.TableOf.{table_columns}
use Rattle.vtl_meaning.specs.Points.{each_point}
use Rattle.vtl_expr.specs.Partners.{AllFit, sought_by}
use Rattle.vtl_expr.proofs.PairLemmas.{all_fit, all_paired}
use Rattle.vtl_expr.proofs.PointLemmas.{each_prepared, points_prepared}
use Rattle.vtl_expr.proofs.pairs.each_pair.Goals as goal

pub each_beside-requires-clause-fits : goal.each_beside-requires-clause-fits
each_beside-requires-clause-fits g c =
    let p = c.args.p.now in
    let lead = c.args.lead.now in
    let other = c.args.other.now in
    let is = c.in_ok-partners.ensures ∙ ap (λ (x : Structure). sought_by x other) c.structure.ensures.structure in
    let same = points_prepared p c.deref.result.now c.in_ok-prepared.prepared.items (map comp_exp_of c.args.exps.now) c.deref.ensures.value c.in_ok-prepared.ensures in
    subst (λ (f : Row → Row). AllFit f (table_columns c.args.made.now) c.in_ok-partners.partners lead.points) (sym same)
    (all_fit p lead other c.args.made.now (map comp_exp_of c.args.exps.now) c.in_ok-partners.partners c.requires.expressions c.structure.ensures.points c.requires.other is)

pub returns-clause-rows : goal.returns-clause-rows
returns-clause-rows g c =
    let p = c.args.p.now in
    let lead = c.args.lead.now in
    let other = c.args.other.now in
    let es = map comp_exp_of c.args.exps.now in
    let is = c.in_ok-partners.ensures ∙ ap (λ (x : Structure). sought_by x other) c.structure.ensures.structure in
    subst (λ (m : Outcome (List Row)). AnswersBy (λ (t : Tabled). t.rows) c.each_beside.result m)
    (each_prepared p c.deref.result.now c.in_ok-prepared.prepared.items es c.deref.ensures.value c.in_ok-prepared.ensures _ ∙ ap (each_point p es) (all_paired lead other c.in_ok-partners.partners is)) c.each_beside.ensures.rows
