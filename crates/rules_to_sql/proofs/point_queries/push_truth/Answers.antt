use Rattle.std.proofs.Common.{[], ◌∷◌, pos, subst}
use Rattle.vtl_tree.specs.NodeView.{point_rule_tree}
use Rattle.vtl_tree.specs.Shown.{shown}
use Rattle.sql_tree.specs.Trees.{Exp}
use Rattle.selects_to_sql.specs.NamedItems.{AreNext}
use Rattle.selects_to_sql.proofs.NamedItems.{next_behind}
use Rattle.rules_to_sql.specs.Items.{denied, level_as, text_as, truth_as, written_as_where}
use Rattle.rules_to_sql.proofs.point_queries.push_truth.Goals as goal

pub returns : goal.returns
returns c =
    let ys = shown c.args.columns.now in
    let rule = c.args.rule.now in
    let truth = truth_as c.args.writer.now (point_rule_tree rule) in
    let code = written_as_where text_as [] (denied truth) rule.errorcode in
    let level = written_as_where level_as (pos 0) (denied truth) rule.errorlevel in
    let old = c.args.items.now.items in
    let one = c.push_next.new.items.items in
    let two = c.push_next-2.new.items.items in
    let three = c.push_next-3.new.items.items in
    next_behind old one three (truth ∷ []) (code ∷ level ∷ []) ys
    (subst (λ (e : Exp). AreNext old one (e ∷ []) ys) c.in_ok-truth.ensures c.in_ok-push_next.ensures)
    (next_behind one two three (code ∷ []) (level ∷ []) ys
    (subst (λ (e : Exp). AreNext one two (e ∷ []) ys) c.in_ok-code_at.ensures c.in_ok-push_next-2.ensures)
    (subst (λ (e : Exp). AreNext two three (e ∷ []) ys) c.in_ok-level_at.ensures c.in_ok-push_next-3.ensures))
