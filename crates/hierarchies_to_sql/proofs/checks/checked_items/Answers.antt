use Rattle.std.proofs.Common.{[], ◌∷◌, ap, map, subst}
use Rattle.vtl_tree.specs.RuleItems.{left_item}
use Rattle.vtl_tree.specs.Shown.{shown}
use Rattle.sql_tree.specs.Trees.{Exp, Text}
use Rattle.sql_tree.specs.View.{item_tree}
use Rattle.selects_to_sql.specs.NamedItems.{AreNext}
use Rattle.selects_to_sql.proofs.NamedItems.{next_behind}
use Rattle.rules_to_sql.specs.Items.{text_as}
use Rattle.hierarchies_to_sql.specs.RuleItems.{keys_as, leaves_of}
use Rattle.hierarchies_to_sql.specs.SideItems.{check_parts_as}
use Rattle.hierarchies_to_sql.proofs.checks.checked_items.Goals as goal

pub returns : goal.returns
returns c =
    let measured = c.args.tabled.now.measured in
    let ys = shown c.args.columns.now.result.now in
    let k = λ (t : Text). keys_as measured.id.now c.args.first.now t (shown c.args.columns.now.identifiers.now) in
    let text = text_as c.args.id.now in
    let parts = check_parts_as c.args.writer.now c.args.sided.now.mode measured.kind c.args.sided.now.rule.now (leaves_of measured c.args.sided.now.aliases.now) c.args.output in
    let old = c.in_ok-items.items.items in
    let one = c.push_keys.new.items.items in
    let two = c.push_next.new.items.items in
    let three = c.push_parts.new.items.items in
    next_behind old one three (k (left_item c.args.sided.now.rule.now)) (text ∷ parts) ys (subst (λ (t : Text). AreNext old one (k t) ys) c.left_item-left.ensures c.in_ok-push_keys.ensures)
    (next_behind one two three (text ∷ []) parts ys (subst (λ (e : Exp). AreNext one two (e ∷ []) ys) c.in_ok-text_as.ensures c.in_ok-push_next.ensures) c.in_ok-push_parts.ensures)
    [] (ap (map item_tree) c.in_ok-items.ensures.items)
