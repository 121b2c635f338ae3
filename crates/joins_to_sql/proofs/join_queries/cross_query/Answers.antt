use Rattle.std.proofs.Common.{map, ap, sym, ◌∙◌}
use Rattle.std.proofs.lemmas.List.{length-map}
use Rattle.std.proofs.lemmas.Result.{IfOk-weaker}
use Rattle.vtl_tree.specs.Shown.{shown}
use Rattle.joins_to_sql.specs.FilteredJoins.{condition_of, filtered_by}
use Rattle.joins_to_sql.specs.JoinItems.{aliased_of, crossed_query}
use Rattle.joins_to_sql.proofs.JoinForms.{cross_written}
use Rattle.joins_to_sql.proofs.join_queries.cross_query.Goals as goal

pub returns : goal.returns
returns c =
    let ss = c.args.structures.now in
    let s = c.args.s.now in
    let xs = c.args.tables.now in
    IfOk-weaker c.crossed_query.result _ _
    (λ q e. e ∙ ap (filtered_by c.args.writer.now (condition_of c.args.condition))
    (ap (λ l. crossed_query l s) (ap (map aliased_of) c.deref.ensures.value ∙ c.in_ok-operands.ensures)
    ∙ sym (cross_written c.args.writer.now (shown ss) s xs (c.requires ∙ sym (length-map ss (λ b. b.now)))))) c.crossed_query.ensures
