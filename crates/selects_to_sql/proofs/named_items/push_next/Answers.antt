use Rattle.std.proofs.Common.{[], ◌∷◌, ◌++◌, ap, map, sym, ◌∙◌}
use Rattle.std.specs.Borrow.{Bor}
use Rattle.vtl_tree.specs.declared.structure.Component.{Component}
use Rattle.sql_tree.specs.View.{expr_tree, item_tree}
use Rattle.selects_to_sql.specs.Queries.{item_as}
use Rattle.selects_to_sql.proofs.NamedItems.{next_is, none_is_next}
use Rattle.selects_to_sql.proofs.named_items.push_next.Goals as goal

pub returns-in_ok-push_item : goal.returns-in_ok-push_item
returns-in_ok-push_item c =
    let old = c.args.items.now.items in
    let e = expr_tree c.args.value in
    next_is old c.push_item.new.items.items c.args.columns.now e c.index-columns-place.result c.len-place.result
    (c.in_ok-push_item.ensures ∙ ap (λ (z : Bor Component). map item_tree old ++ item_as z.now.name e ∷ []) (sym c.index-columns-place.is))
    (c.len-place.ensures ∙ c.args.items.now.ok.0) c.if-place-columns.true c.index-columns-place.is

pub returns-else-place-columns : goal.returns-else-place-columns
returns-else-place-columns c = none_is_next c.args.items.now.items c.args.columns.now (expr_tree c.args.value) c.len-place.result (c.len-place.ensures ∙ c.args.items.now.ok.0) c.if-place-columns.false
