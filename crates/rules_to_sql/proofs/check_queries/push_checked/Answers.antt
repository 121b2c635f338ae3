use Rattle.std.proofs.Common.{[], ◌∷◌, pos, subst}
use Rattle.vtl_tree.specs.Shown.{shown}
use Rattle.sql_tree.specs.Trees as tree
use Rattle.sql_tree.specs.Trees.{Exp}
use Rattle.sql_tree.specs.View.{expr_tree}
use Rattle.selects_to_sql.specs.NamedItems.{AreNext}
use Rattle.selects_to_sql.proofs.NamedItems.{next_behind}
use Rattle.rules_to_sql.specs.Items.{denied, level_as, text_as, written_as_where}
use Rattle.rules_to_sql.proofs.check_queries.push_checked.Goals as goal

pub returns : goal.returns
returns c =
    let ys = shown c.args.columns.now in
    let spec = c.args.spec.now in
    let truth = tree.column c.args.truth.now in
    let e = expr_tree c.args.imbalance in
    let code = written_as_where text_as [] (denied truth) spec.errorcode in
    let level = written_as_where level_as (pos 0) (denied truth) spec.errorlevel in
    let old = c.args.items.now.items in
    let one = c.push_next.new.items.items in
    let two = c.push_next-2.new.items.items in
    let three = c.push_next-3.new.items.items in
    let four = c.push_next-4.new.items.items in
    next_behind old one four (truth ∷ []) (e ∷ code ∷ level ∷ []) ys
    (subst (λ (x : Exp). AreNext old one (x ∷ []) ys) c.in_ok-column.ensures c.in_ok-push_next.ensures)
    (next_behind one two four (e ∷ []) (code ∷ level ∷ []) ys c.in_ok-push_next-2.ensures
    (next_behind two three four (code ∷ []) (level ∷ []) ys
    (subst (λ (x : Exp). AreNext two three (x ∷ []) ys) c.in_ok-code_at.ensures c.in_ok-push_next-3.ensures)
    (subst (λ (x : Exp). AreNext three four (x ∷ []) ys) c.in_ok-level.ensures c.in_ok-push_next-4.ensures)))
