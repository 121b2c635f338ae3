use Rattle.std.proofs.Common.{[], ◌∷◌, None, ap, map, sym, ◌∙◌}
use Rattle.std.proofs.lemmas.Result.{IfOk-weaker}
use Rattle.vtl_tree.specs.Shown.{shown}
use Rattle.sql_tree.specs.View.{item_tree}
use Rattle.joins_to_sql.specs.KeyItems.{once_select}
use Rattle.selects_to_sql.specs.Items.{own_items}
use Rattle.selects_to_sql.specs.Queries.{first_alias, source_as}
use Rattle.selects_to_sql.specs.Groups.{grouped_as, group_of}
use Rattle.joins_to_sql.proofs.KeyForms.{once_written}
use Rattle.joins_to_sql.proofs.full_joins.once_query.Goals as goal

pub returns : goal.returns
returns c =
    let table = c.args.table.now in
    let first = ap shown c.deref.ensures.value ∙ c.in_ok-columns.ensures in
    let second = ap shown c.deref-2.ensures.value ∙ c.in_ok-columns.ensures in
    IfOk-weaker c.one_select.result _ _
    (λ q e. e ∙ ap (λ x. x ∷ [])
    (c.in_ok-grouped.ensures
    ∙ ap (λ g. grouped_as (map item_tree c.in_ok-items.items.items) (source_as first_alias table) g None) c.in_ok-group.ensures
    ∙ ap (λ l. grouped_as l (source_as first_alias table) (group_of (shown c.deref-2.result.now)) None) (c.in_ok-items.ensures ∙ ap own_items (first ∙ sym second))
    ∙ ap (λ ys. once_select ys table) second)
    ∙ sym (once_written c.args.writer.now c.args.keys.now table)) c.one_select.ensures
