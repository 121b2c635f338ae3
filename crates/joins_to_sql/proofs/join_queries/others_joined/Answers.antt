use Rattle.std.proofs.Common.{◌+◌, ◌++◌, List, map, take, drop, sym, ap, ◌∙◌}
use Rattle.std.proofs.lemmas.List.{take_rest}
use Rattle.sql_tree.specs.View.{join_tree}
use Rattle.sql_tree.specs.declared.statements.Join.{Join}
use Rattle.joins_to_sql.specs.JoinItems.{aliased_of, joined_with}
use Rattle.joins_to_sql.proofs.JoinWritten.{all_others}
use Rattle.joins_to_sql.proofs.join_queries.others_joined.Goals as goal

pub returns : goal.returns
returns c =
    let place = c.args.place in
    let os = c.args.operands.now in
    let with = joined_with c.args.kind (aliased_of c.args.reference.now) in
    c.in_ok-push_joined-2.ensures
    ∙ ap (λ l. map join_tree c.push_joined.new.joins.items ++ map with (map aliased_of l)) (take_rest os (place + 1))
    ∙ ap (λ l. l ++ map with (map aliased_of (drop (place + 1) os)))
    (c.in_ok-push_joined.ensures ∙ ap (λ (l : List Join). map join_tree l ++ map with (map aliased_of (take place os))) c.in_ok-joins.ensures.items)
    ∙ sym (all_others with aliased_of place os)
