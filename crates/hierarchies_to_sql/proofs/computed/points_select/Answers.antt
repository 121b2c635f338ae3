use Rattle.std.proofs.Common.{[], ◌∷◌, ◌++◌, List, None, ap, map, subst, ◌∙◌}
use Rattle.std.proofs.lemmas.Result.{IfOk-weaker}
use Rattle.vtl_tree.specs.RuleItems.{left_item}
use Rattle.vtl_tree.specs.Shown.{shown}
use Rattle.sql_tree.specs.Trees.{Exp, ItemTree, Text}
use Rattle.sql_tree.specs.View.{item_tree}
use Rattle.sql_tree.specs.declared.parts.Source.{Source}
use Rattle.selects_to_sql.specs.Items.{first_column, from_one}
use Rattle.selects_to_sql.specs.NamedItems.{AreNext}
use Rattle.selects_to_sql.specs.Queries.{first_alias, items_as}
use Rattle.selects_to_sql.proofs.NamedItems.{next_behind}
use Rattle.hierarchies_to_sql.specs.RuleItems.{keys_as, tables_in}
use Rattle.hierarchies_to_sql.proofs.computed.points_select.Goals as goal

pub returns : goal.returns
returns c =
    let measured = c.args.measured.now in
    let ids = shown c.args.identifiers.now in
    let ys = shown c.args.columns.now in
    let k = λ (z t : Text). keys_as measured.id.now z t ids in
    let value = first_column measured.measure.now in
    let item = c.left_item-item.result.now in
    let f = tables_in c.args.computed.now in
    let made = λ (z t x : Text). from_one (items_as (k z t ++ (value ∷ [])) ys) None x in
    let old = c.in_ok-items.items.items in
    let one = c.push_keys.new.items.items in
    let two = c.push_next.new.items.items in
    let items =
    next_behind old one two (k c.in_ok-source.source.alias item) (value ∷ []) ys c.in_ok-push_keys.ensures (subst (λ (e : Exp). AreNext one two (e ∷ []) ys) c.in_ok-column.ensures c.in_ok-push_next.ensures)
    [] (ap (map item_tree) c.in_ok-items.ensures.items)
    in
    IfOk-weaker c.from_one.result _ _
    (λ x e.
    e
    ∙ ap (λ (l : List ItemTree). from_one l None c.in_ok-table.table) items
    ∙ ap (λ (z : Source). made z.alias item c.in_ok-table.table) c.in_ok-source.ensures
    ∙ ap (λ (x : Text). made first_alias item x) c.in_ok-table.ensures
    ∙ ap (λ (t : Text). made first_alias t (f t)) c.left_item-item.ensures) c.from_one.ensures
