use Rattle.std.proofs.Common.{[], ◌∷◌, ap, map, subst}
use Rattle.vtl_tree.specs.NodeView.{point_rule_tree}
use Rattle.vtl_tree.specs.Shown.{shown}
use Rattle.vtl_tree.specs.Checks.{output_parts}
use Rattle.sql_tree.specs.Trees.{Exp}
use Rattle.sql_tree.specs.View.{item_tree}
use Rattle.selects_to_sql.specs.NamedItems.{AreNext, own_columns}
use Rattle.selects_to_sql.proofs.NamedItems.{next_behind}
use Rattle.rules_to_sql.specs.Items.{rule_errors_as, text_as, truth_as}
use Rattle.rules_to_sql.proofs.point_queries.ruled_items.Goals as goal

pub returns : goal.returns
returns c =
    let ys = shown c.args.columns.now in
    let rule = c.args.rule.now in
    let o = c.args.output in
    let truth = truth_as c.args.writer.now (point_rule_tree rule) in
    let ids = own_columns (shown c.args.identifiers.now) in
    let text = text_as c.args.id.now in
    let parts = output_parts o (own_columns (shown c.args.measures.now)) truth (rule_errors_as o truth rule.errorcode rule.errorlevel) in
    let old = c.in_ok-items.items.items in
    let one = c.push_own.new.items.items in
    let two = c.push_next.new.items.items in
    let three = c.push_parts.new.items.items in
    next_behind old one three ids (text ∷ parts) ys c.in_ok-push_own.ensures
    (next_behind one two three (text ∷ []) parts ys (subst (λ (e : Exp). AreNext one two (e ∷ []) ys) c.in_ok-text_as.ensures c.in_ok-push_next.ensures) c.in_ok-push_parts.ensures)
    [] (ap (map item_tree) c.in_ok-items.ensures.items)
