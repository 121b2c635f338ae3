use Rattle.std.proofs.Common.{[], ◌∷◌, ◌++◌, List, ap, map, append_assoc, ◌∙◌}
use Rattle.vtl_tree.specs.Shown.{shown}
use Rattle.sql_tree.specs.Trees.{Exp}
use Rattle.sql_tree.specs.View.{expr_tree, item_tree}
use Rattle.selects_to_sql.specs.Queries.{items_as}
use Rattle.groups_to_sql.specs.Turned.{text_constant}
use Rattle.selects_to_sql.specs.NamedItems.{own_columns}
use Rattle.groups_to_sql.proofs.unpivot_queries.named_values.Goals as goal

pub returns : goal.returns
returns c =
    let ids = own_columns (shown c.args.identifiers.now) in
    let name = c.args.measure.now.name in
    let text = expr_tree c.in_ok-text_constant.field-0 in
    let value = expr_tree c.in_ok-column.field-0 in
    let all = λ (es : List Exp). items_as es (shown c.args.columns.now) in
    c.in_ok-push_next-2.ensures (ids ++ text ∷ []) (c.in_ok-push_next.ensures ids (c.in_ok-push_own.ensures [] (ap (map item_tree) c.in_ok-items.ensures.items)))
    ∙ ap all (append_assoc ids (text ∷ []) (value ∷ []))
    ∙ ap (λ e. all (ids ++ e ∷ value ∷ [])) c.in_ok-text_constant.ensures
    ∙ ap (λ e. all (ids ++ text_constant name ∷ e ∷ [])) c.in_ok-column.ensures
