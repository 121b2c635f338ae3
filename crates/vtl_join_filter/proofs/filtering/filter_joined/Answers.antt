use Rattle.std.proofs.Common.{subst, sym}
use Rattle.vtl_scalar.specs.Answers.{Answers}
use Rattle.vtl_sets.specs.DataSets.{with_structure}
use Rattle.vtl_syntax.specs.declared.word_groups.JoinKind.{JoinKind}
use Rattle.vtl_syntax.specs.declared.word_groups.JoinKind.TheVariants as join
use Rattle.vtl_tree.specs.Clauses.{filter_of}
use Rattle.vtl_tree.specs.View.{comp_exp_of}
use Rattle.vtl_meaning.specs.Joined.{join_of, structures_of}
use Rattle.vtl_meaning.specs.Made.{IsJoined}
use Rattle.vtl_join.specs.Joining.{sets_of}
use Rattle.vtl_join_filter.proofs.filtering.filter_joined.Goals as goal

pub crossed_table-table-requires-clause-made : goal.crossed_table-table-requires-clause-made
crossed_table-table-requires-clause-made c = subst (λ (k : JoinKind). IsJoined k (structures_of (sets_of c.args.j.operands)) c.args.made.now) c.in-Cross.is c.requires.made

pub returns-in-Cross : goal.returns-in-Cross
returns-in-Cross c =
    let e = comp_exp_of c.args.condition.now in
    let sets = sets_of c.args.j.operands in
    subst (λ (k : JoinKind). Answers c.answered.result (with_structure c.args.filtered.now (filter_of c.args.p.now e (join_of k sets)))) (sym c.in-Cross.is)
    (c.answered.ensures (filter_of c.args.p.now e (join_of join.Cross sets)) c.crossed_table-table.ensures.rows)
