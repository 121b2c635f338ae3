use Rattle.std.proofs.Common.{◌<◌, ◌++◌, ◌∷◌, [], min, length, map, ap, sym, subst, ◌∙◌}
use Rattle.std.specs.Borrow.{Bor}
use Rattle.vtl_tree.specs.declared.structure.Component.{Component}
use Rattle.sql_tree.specs.View.{expr_tree, item_tree}
use Rattle.selects_to_sql.specs.Items.{first_column, renamed_item}
use Rattle.selects_to_sql.specs.Queries.{item_as}
use Rattle.selects_to_sql.proofs.Written.{one_more}
use Rattle.selects_to_sql.proofs.items.push_renamed.Goals as goal

pub loop-i-preserved : goal.loop-i-preserved
loop-i-preserved c =
    let xs = c.args.columns.now in
    let ys = c.args.names.now in
    let x = c.index-columns-i.result in
    let y = c.index-names-i.result in
    let old = map item_tree c.loop-i.items.items in
    let within : c.loop-i.i < min (length xs) (length ys) = subst (λ n. c.loop-i.i < n) c.min-i-end.ensures c.loop-i-test.true in
    one_more renamed_item old (map item_tree c.push_item.new.items.items) (map item_tree c.args.items.now.items) xs ys c.loop-i.i x y
    (c.in_ok-push_item.ensures
    ∙ ap (λ (z : Bor Component). old ++ item_as z.now.name (expr_tree c.in_ok-column.field-0) ∷ []) (sym c.index-names-i.is)
    ∙ ap (λ e. old ++ item_as y.now.name e ∷ []) c.in_ok-column.ensures
    ∙ ap (λ (z : Bor Component). old ++ item_as y.now.name (first_column z.now.name) ∷ []) (sym c.index-columns-i.is))
    c.loop-i.invariant within c.index-columns-i.is c.index-names-i.is
