use Rattle.std.proofs.Common.{[], ◌∷◌, List, ap, map, subst, ◌∙◌}
use Rattle.vtl_tree.specs.Shown.{shown}
use Rattle.vtl_tree.specs.declared.structure.Component.{Component}
use Rattle.vtl_tree.specs.Columns.{identifiers_of}
use Rattle.sql_tree.specs.View.{expr_tree, item_tree}
use Rattle.selects_to_sql.specs.NamedItems.{AreNext, own_columns}
use Rattle.vtl_to_sql.proofs.existence_queries.answered_items.Goals as goal

pub returns : goal.returns
returns c =
    let e = expr_tree c.args.answer in
    let none = c.in_ok-items.items.items in
    let first = c.push_own.new.items.items in
    let all = c.push_next.new.items.items in
    let ids = ap shown c.deref.ensures.value ∙ c.in_ok-identifiers.ensures in
    let ours = ap shown c.deref-2.ensures.value ∙ c.in_ok-columns.ensures in
    let theirs = ap shown c.deref-3.ensures.value ∙ c.in_ok-columns.ensures in
    let own = subst (λ (xs : List Component). AreNext none first (own_columns xs) (shown c.deref-2.result.now)) ids c.in_ok-push_own.ensures in
    let own_named = subst (λ (ys : List Component). AreNext none first (own_columns (identifiers_of c.args.s.now)) ys) ours own in
    let answer = subst (λ (ys : List Component). AreNext first all (e ∷ []) ys) theirs c.in_ok-push_next.ensures in
    answer (own_columns (identifiers_of c.args.s.now)) (own_named [] (ap (map item_tree) c.in_ok-items.ensures.items))
