use Rattle.std.proofs.Common.{[], ◌∷◌, pos, subst}
use Rattle.vtl_tree.specs.Shown.{shown}
use Rattle.sql_tree.specs.Trees.{Exp}
use Rattle.selects_to_sql.specs.NamedItems.{AreNext}
use Rattle.selects_to_sql.proofs.NamedItems.{next_behind}
use Rattle.rules_to_sql.specs.Items.{level_as, text_as, written_as}
use Rattle.rules_to_sql.proofs.point_queries.push_errors.Goals as goal

pub returns : goal.returns
returns c =
    let ys = shown c.args.columns.now in
    let rule = c.args.rule.now in
    let old = c.args.items.now.items in
    let one = c.push_next.new.items.items in
    let two = c.push_next-2.new.items.items in
    next_behind old one two (written_as text_as [] rule.errorcode ∷ []) (written_as level_as (pos 0) rule.errorlevel ∷ []) ys
    (subst (λ (e : Exp). AreNext old one (e ∷ []) ys) c.in_ok-code.ensures c.in_ok-push_next.ensures)
    (subst (λ (e : Exp). AreNext one two (e ∷ []) ys) c.in_ok-level.ensures c.in_ok-push_next-2.ensures)
