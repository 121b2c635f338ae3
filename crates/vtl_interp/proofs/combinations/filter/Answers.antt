use Rattle.std.proofs.Common.{rules, ◌≡◌, Err, ap, subst, sym, ◌∙◌}
use Rattle.vtl_sets.specs.DataSets.{with_structure}
use Rattle.vtl_tree.specs.Clauses.{filter_of}
use Rattle.vtl_tree.specs.Environment.{DataSet}
use Rattle.vtl_tree.specs.View.{comp_exp_of}
use Rattle.vtl_expr.proofs.Values.{AnswersBy_passed}
use Rattle.vtl_meaning.specs.Made.{IsFiltered}
use Rattle.vtl_interp.specs.Values.{value_view}
use Rattle.vtl_interp.proofs.combinations.filter.Goals as goal

pub filter-requires : goal.filter-requires
filter-requires c = subst (λ (d : DataSet). IsFiltered c.args.p.now (comp_exp_of c.args.condition.now) d.structure c.args.made.now) (sym c.data.ensures) c.requires

pub returns-in_err-filter : goal.returns-in_err-filter
returns-in_err-filter c =
    let e = comp_exp_of c.args.condition.now in
    let passed : c.from_residual.result ≡ Err c.in_err-filter.field-0.0 = search rules in
    AnswersBy_passed (λ (d : DataSet). d) value_view c.in_err-filter.field-0.0 _ _ _ c.in_err-filter.ensures passed
    (λ f h. ap (λ (d : DataSet). with_structure c.args.made.now (filter_of c.args.p.now e d.points)) (sym c.data.ensures) ∙ h)

pub returns : goal.returns
returns c =
    let e = comp_exp_of c.args.condition.now in
    ap (λ (d : DataSet). with_structure c.args.made.now (filter_of c.args.p.now e d.points)) (sym c.data.ensures) ∙ c.in_ok-filter.ensures
