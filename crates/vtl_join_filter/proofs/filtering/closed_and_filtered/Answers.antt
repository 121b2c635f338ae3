use Rattle.std.proofs.Common.{subst, sym}
use Rattle.vtl_scalar.specs.Answers.{Answers}
use Rattle.vtl_sets.specs.DataSets.{with_structure}
use Rattle.vtl_tree.specs.Clauses.{filter_of}
use Rattle.vtl_tree.specs.Environment.{DataSet}
use Rattle.vtl_tree.specs.View.{comp_exp_of}
use Rattle.vtl_meaning.specs.Made.{IsFiltered}
use Rattle.vtl_join_filter.proofs.filtering.closed_and_filtered.Goals as goal

pub filter-requires : goal.filter-requires
filter-requires c = subst (λ (d : DataSet). IsFiltered c.args.p.now (comp_exp_of c.args.condition.now) d.structure c.args.filtered.now) (sym c.in_ok-joined.ensures) c.requires.filtered

pub returns : goal.returns
returns c = subst (λ (d : DataSet). Answers c.filter.result (with_structure c.args.filtered.now (filter_of c.args.p.now (comp_exp_of c.args.condition.now) d.points))) c.in_ok-joined.ensures c.filter.ensures
