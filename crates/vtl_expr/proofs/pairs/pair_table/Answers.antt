use Rattle.std.proofs.Common.{◌++◌, List, map, ap, sym, subst, ◌∙◌}
use Rattle.vtl_cell.specs.Row.{Row}
use Rattle.vtl_rows.specs.Tables.{Tabled}
use Rattle.vtl_scalar.specs.Answers.{AnswersBy}
use Rattle.vtl_tree.specs.CompExp.{CompExp}
use Rattle.vtl_tree.specs.Structure.{columns_of}
use Rattle.vtl_tree.specs.View.{comp_exp_of}
use Rattle.vtl_tree.specs.declared.structure.Component.{Component}
use Rattle.vtl_sets.proofs.TableLemmas.{answered_is_table}
use Rattle.vtl_meaning.specs.Made.{AreFor}
use Rattle.vtl_meaning.specs.Operators.{pair_exps, pair_of}
use Rattle.vtl_meaning.specs.Points.{each_point, paired}
use Rattle.vtl_meaning.proofs.Kept.{pair_kept}
use Rattle.vtl_expr.proofs.PairLemmas.{lead_columns, lead_data, lead_exps, lead_pairs}
use Rattle.vtl_expr.proofs.pairs.pair_table.Goals as goal

pub pairs_table-requires-clause-expressions : goal.pairs_table-requires-clause-expressions
pairs_table-requires-clause-expressions c =
    let a = c.args.a.now in
    let b = c.args.b.now in
    let s = c.args.made.now in
    let pair = c.in_ok-pair.pair in
    let es = ap (map comp_exp_of) c.deref.ensures.value
    ∙ lead_exps a b pair.lead.now pair.other.now c.in_ok-pair.ensures.lead c.in_ok-pair.ensures.other c.args.op s c.structure-lead.result.now c.structure-ours.result.now pair.left pair.right (map comp_exp_of c.in_ok-exps.exps.items)
    c.structure-lead.ensures.structure c.structure-ours.ensures.structure c.in_ok-pair.ensures.left c.in_ok-pair.ensures.right c.in_ok-exps.ensures in
    subst (λ (l : List CompExp). AreFor c.args.p.now (columns_of pair.lead.now.structure ++ columns_of pair.other.now.structure) l (columns_of s)) (sym es)
    (subst (λ (l : List Component). AreFor c.args.p.now l (pair_exps c.args.op a.structure b.structure s) (columns_of s)) (sym (lead_columns a b pair.lead.now pair.other.now c.in_ok-pair.ensures.lead c.in_ok-pair.ensures.other)) c.requires.columns)

pub returns-clause-rows : goal.returns-clause-rows
returns-clause-rows c =
    let a = c.args.a.now in
    let b = c.args.b.now in
    let s = c.args.made.now in
    let pair = c.in_ok-pair.pair in
    let es = ap (map comp_exp_of) c.deref.ensures.value
    ∙ lead_exps a b pair.lead.now pair.other.now c.in_ok-pair.ensures.lead c.in_ok-pair.ensures.other c.args.op s c.structure-lead.result.now c.structure-ours.result.now pair.left pair.right (map comp_exp_of c.in_ok-exps.exps.items)
    c.structure-lead.ensures.structure c.structure-ours.ensures.structure c.in_ok-pair.ensures.left c.in_ok-pair.ensures.right c.in_ok-exps.ensures in
    subst (λ (d : List Row). AnswersBy (λ (t : Tabled). t.rows) c.pairs_table.result (each_point c.args.p.now (pair_exps c.args.op a.structure b.structure s) d)) (lead_pairs a b pair.lead.now pair.other.now c.in_ok-pair.ensures.lead c.in_ok-pair.ensures.other)
    (subst (λ (l : List CompExp). AnswersBy (λ (t : Tabled). t.rows) c.pairs_table.result (each_point c.args.p.now l (paired pair.lead.now pair.other.now))) es c.pairs_table.ensures.rows)

pub returns-clause-table : goal.returns-clause-table
returns-clause-table c =
    let a = c.args.a.now in
    let b = c.args.b.now in
    let p = c.args.p.now in
    let pair = c.in_ok-pair.pair in
    let are_data_sets = lead_data a b pair.lead.now pair.other.now c.in_ok-pair.ensures.lead c.in_ok-pair.ensures.other c.in_ok-pair.ensures.points.0 c.in_ok-pair.ensures.points.1 in
    answered_is_table c.args.made.now c.pairs_table.result (pair_of p c.args.op a b c.args.made.now) c.pairs_table.ensures.columns (returns-clause-rows c)
    (λ out e. pair_kept p c.args.op a b c.args.made.now out c.requires are_data_sets.0 are_data_sets.1 e)
