use Rattle.std.proofs.Common.{map, ap, sym, ◌∙◌}
use Rattle.std.specs.Prelude.{slice_get}
use Rattle.std.proofs.lemmas.List.{length-map}
use Rattle.std.proofs.lemmas.Result.{IfOk-weaker}
use Rattle.vtl_tree.specs.Shown.{shown}
use Rattle.joins_to_sql.specs.FilteredJoins.{condition_of, filtered_by}
use Rattle.joins_to_sql.specs.JoinItems.{aliased_of, referred_query}
use Rattle.joins_to_sql.proofs.JoinForms.{reference_written}
use Rattle.joins_to_sql.proofs.join_queries.reference_query.Goals as goal

pub returns : goal.returns
returns c =
    let kind = c.args.kind in
    let place = c.args.place in
    let ss = c.args.structures.now in
    let s = c.args.s.now in
    let xs = c.args.tables.now in
    IfOk-weaker c.referred_query.result _ _
    (λ q e. e ∙ ap (filtered_by c.args.writer.now (condition_of c.args.condition))
    (ap (λ l. referred_query kind place l s (slice_get l place)) (ap (map aliased_of) c.deref.ensures.value ∙ c.in_ok-operands.ensures)
    ∙ sym (reference_written c.args.writer.now kind place (shown ss) s xs (c.requires ∙ sym (length-map ss (λ b. b.now)))))) c.referred_query.ensures
