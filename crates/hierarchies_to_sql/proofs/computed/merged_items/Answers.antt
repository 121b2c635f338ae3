use Rattle.std.proofs.Common.{[], ◌∷◌, ap, map, subst}
use Rattle.vtl_tree.specs.Shown.{shown}
use Rattle.sql_tree.specs.Trees.{Exp}
use Rattle.sql_tree.specs.View.{item_tree}
use Rattle.joins_to_sql.specs.JoinItems.{column_from}
use Rattle.selects_to_sql.specs.NamedItems.{AreNext}
use Rattle.selects_to_sql.proofs.NamedItems.{next_behind}
use Rattle.hierarchies_to_sql.specs.RuleItems.{leaf_of, true_as, value_of_two_as}
use Rattle.hierarchies_to_sql.proofs.computed.merged_items.Goals as goal

pub returns : goal.returns
returns c =
    let ys = shown c.args.shape.now.columns.now in
    let others = map (column_from c.args.first.now) (shown c.args.shape.now.others.now) in
    let value = value_of_two_as (leaf_of c.args.shape.now.measured.now c.args.made.now) (leaf_of c.args.shape.now.measured.now c.args.given.now) in
    let none = c.in_ok-items.items.items in
    let one = c.push_from.new.items.items in
    let two = c.push_next.new.items.items in
    let three = c.push_next-2.new.items.items in
    next_behind none one three others (value ∷ true_as ∷ []) ys c.in_ok-push_from.ensures
    (next_behind one two three (value ∷ []) (true_as ∷ []) ys (subst (λ (e : Exp). AreNext one two (e ∷ []) ys) c.in_ok-value.ensures c.in_ok-push_next.ensures)
    (subst (λ (e : Exp). AreNext two three (e ∷ []) ys) c.always.ensures c.in_ok-push_next-2.ensures))
    [] (ap (map item_tree) c.in_ok-items.ensures.items)
