use Rattle.std.proofs.Common.{◌<◌, ◌++◌, ◌∷◌, [], min, length, map, subst, sym, ap, ◌∙◌}
use Rattle.std.specs.Borrow.{Bor}
use Rattle.vtl_tree.specs.declared.structure.Component.{Component}
use Rattle.sql_tree.specs.View.{expr_tree, item_tree}
use Rattle.selects_to_sql.specs.Queries.{item_as}
use Rattle.joins_to_sql.proofs.JoinWritten.{one_named}
use Rattle.joins_to_sql.proofs.join_items.push_named.Goals as goal

pub loop-i-preserved : goal.loop-i-preserved
loop-i-preserved c =
    let ps = c.args.picked.now in
    let ys = c.args.names.now in
    let i = c.loop-i.i in
    let old = map item_tree c.loop-i.items.items in
    let within : i < min (length ps) (length ys) = subst (λ n. i < n) c.min-i-end.ensures c.loop-i-test.true in
    one_named old (map item_tree c.push_item.new.items.items) (map item_tree c.args.items.now.items) ps ys i c.index-picked-i.result c.index-names-i.result
    (c.in_ok-push_item.ensures
    ∙ ap (λ (z : Bor Component). old ++ item_as z.now.name (expr_tree c.in_ok-column.field-0) ∷ []) (sym c.index-names-i.is)
    ∙ ap (λ e. old ++ item_as c.index-names-i.result.now.name e ∷ []) c.in_ok-column.ensures) c.loop-i.invariant within c.index-picked-i.is c.index-names-i.is
