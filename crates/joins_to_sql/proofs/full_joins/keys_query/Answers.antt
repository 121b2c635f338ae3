use Rattle.std.proofs.Common.{ap, map, sym, ◌∙◌}
use Rattle.std.proofs.lemmas.Result.{IfOk-weaker}
use Rattle.vtl_tree.specs.Shown.{shown}
use Rattle.joins_to_sql.specs.KeyItems.{identifiers_select}
use Rattle.joins_to_sql.proofs.KeyForms.{keys_written}
use Rattle.joins_to_sql.proofs.full_joins.keys_query.Goals as goal

pub returns : goal.returns
returns c =
    let xs = c.args.tables.now in
    IfOk-weaker c.identifiers_selects.result _ _
    (λ q e ss many. e
    ∙ ap (λ ids. map (identifiers_select ids) xs) (ap shown c.deref.ensures.value ∙ c.in_ok-identifiers.ensures)
    ∙ sym (keys_written c.args.writer.now c.args.reference.now ss xs many)) c.identifiers_selects.ensures
