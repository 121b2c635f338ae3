use Rattle.std.proofs.Common.{[], List, ap, map, subst, ◌∙◌}
use Rattle.vtl_tree.specs.Columns.{identifiers_of}
use Rattle.vtl_tree.specs.Shown.{shown}
use Rattle.vtl_tree.specs.Structure.{columns_of}
use Rattle.vtl_tree.specs.declared.structure.Component.{Component}
use Rattle.sql_tree.specs.Trees.{Exp}
use Rattle.sql_tree.specs.View.{expr_tree, item_tree}
use Rattle.selects_to_sql.specs.NamedItems.{AreNext}
use Rattle.rules_to_sql.specs.Items.{checked_parts_as, columns_as, columns_of_two}
use Rattle.rules_to_sql.proofs.check_queries.imbalance_items.Goals as goal

pub returns : goal.returns
returns c =
    let spec = c.args.spec.now in
    let parts = λ (e : Exp). checked_parts_as c.args.truth.now e spec.errorcode spec.errorlevel in
    let none = c.in_ok-items.items.items in
    let first = c.push_leading.new.items.items in
    let all = c.push_checked.new.items.items in
    let front = λ (xs : List Component). columns_as (columns_of_two (shown c.args.own.now) xs) in
    let ids = ap shown c.deref.ensures.value ∙ c.in_ok-identifiers.ensures in
    let ours = ap shown c.deref-2.ensures.value ∙ c.in_ok-columns.ensures in
    let theirs = ap shown c.deref-3.ensures.value ∙ c.in_ok-columns.ensures in
    let own = subst (λ (xs : List Component). AreNext none first (front xs) (shown c.deref-2.result.now)) ids c.in_ok-push_leading.ensures in
    let own_named = subst (λ (ys : List Component). AreNext none first (front (identifiers_of c.args.a.now)) ys) ours own in
    let named = subst (λ (ys : List Component). AreNext first all (parts (expr_tree c.in_ok-imbalance.imbalance)) ys) theirs c.in_ok-push_checked.ensures in
    let valued = subst (λ (e : Exp). AreNext first all (parts e) (columns_of c.args.s.now)) c.in_ok-imbalance.ensures named in
    valued (front (identifiers_of c.args.a.now)) (own_named [] (ap (map item_tree) c.in_ok-items.ensures.items))
