use Rattle.std.proofs.Common.{[], ◌∷◌, ap, sym, ◌∙◌}
use Rattle.std.specs.Option.{option_map}
use Rattle.std.proofs.lemmas.Result.{IfOk-weaker}
use Rattle.vtl_tree.specs.Structure.{columns_of}
use Rattle.vtl_tree.specs.NodeView.{agg_tree}
use Rattle.expressions_to_sql.specs.ToSql.{group_columns}
use Rattle.sql_tree.specs.View.{expr_tree}
use Rattle.groups_to_sql.specs.Grouped.{kept_where}
use Rattle.groups_to_sql.specs.GroupedItems.{aggregated_items}
use Rattle.selects_to_sql.specs.Queries.{first_alias, source_as}
use Rattle.selects_to_sql.specs.Groups.{grouped_as}
use Rattle.groups_to_sql.proofs.GroupedForms.{aggregate_written}
use Rattle.groups_to_sql.proofs.grouped_queries.aggregate_query.Goals as goal

pub returns : goal.returns
returns c =
    let p = c.args.writer.now in
    let spec = agg_tree c.args.spec.now in
    let from = source_as first_alias c.args.table.now in
    let items = aggregated_items spec.items (columns_of c.args.s.now) in
    let names = c.as_slice-names.result.now in
    let named = c.as_slice-names.ensures in
    let having = option_map expr_tree c.in_ok-having.having in
    IfOk-weaker c.one_select.result _ _
    (λ q e a. e ∙ ap (λ x. x ∷ [])
    (c.in_ok-grouped.ensures
    ∙ ap (λ l. grouped_as l from c.in_ok-group.group.items having) c.in_ok-items.ensures
    ∙ ap (λ g. grouped_as items from g having) (c.in_ok-group.ensures ∙ ap (group_columns first_alias) named)
    ∙ ap (grouped_as items from (group_columns first_alias spec.grouping)) (c.in_ok-having.ensures ∙ ap (λ l. kept_where p l spec.having) named))
    ∙ sym (aggregate_written p spec a c.args.s.now c.args.table.now)) c.one_select.ensures
