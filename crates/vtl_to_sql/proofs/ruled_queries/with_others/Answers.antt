use Rattle.std.proofs.Common.{ap, ◌∙◌}
use Rattle.std.proofs.lemmas.Result.{IfOk-weaker}
use Rattle.sql_tree.specs.Trees.{Text}
use Rattle.vtl_to_sql.specs.Sets.{union_query}
use Rattle.vtl_to_sql.proofs.ruled_queries.with_others.Goals as goal

pub returns-clause-query : goal.returns-clause-query
returns-clause-query c =
    IfOk-weaker c.set_query.result _ _ (λ q e a b. e a b ∙ ap (λ (x : Text). union_query c.args.writer.now a b c.args.s.now x c.args.table.now) c.in_ok-points.ensures.name) c.set_query.ensures
