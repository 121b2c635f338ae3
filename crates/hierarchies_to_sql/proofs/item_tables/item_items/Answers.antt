use Rattle.std.proofs.Common.{[], ◌∷◌, ◌++◌, ap, map, subst}
use Rattle.vtl_tree.specs.Shown.{shown}
use Rattle.sql_tree.specs.Trees.{Exp}
use Rattle.sql_tree.specs.View.{item_tree}
use Rattle.selects_to_sql.specs.Items.{first_column}
use Rattle.selects_to_sql.specs.NamedItems.{AreNext, own_columns}
use Rattle.selects_to_sql.proofs.NamedItems.{next_behind}
use Rattle.hierarchies_to_sql.specs.RuleItems.{true_as}
use Rattle.hierarchies_to_sql.proofs.item_tables.item_items.Goals as goal

pub returns : goal.returns
returns c =
    let ys = shown c.args.columns.now in
    let others = own_columns (shown c.args.others.now) in
    let value = first_column c.args.measured.now.measure.now in
    let none = c.in_ok-items.items.items in
    let one = c.push_own.new.items.items in
    let two = c.push_next.new.items.items in
    let three = c.push_next-2.new.items.items in
    next_behind none one three others (value ∷ true_as ∷ []) ys c.in_ok-push_own.ensures
    (next_behind one two three (value ∷ []) (true_as ∷ []) ys (subst (λ (e : Exp). AreNext one two (e ∷ []) ys) c.in_ok-column.ensures c.in_ok-push_next.ensures)
    (subst (λ (e : Exp). AreNext two three (e ∷ []) ys) c.always.ensures c.in_ok-push_next-2.ensures))
    [] (ap (map item_tree) c.in_ok-items.ensures.items)
