use Rattle.std.proofs.Common.{[], ◌∷◌, List, subst, sym, take}
use Rattle.std.proofs.lemmas.List.{take_all}
use Rattle.vtl_tree.specs.Shown.{shown}
use Rattle.sql_tree.specs.Trees.{Exp}
use Rattle.selects_to_sql.specs.NamedItems.{AreNext}
use Rattle.selects_to_sql.proofs.NamedItems.{each_more, next_behind, none_behind}
use Rattle.hierarchies_to_sql.specs.RuleItems.{key_as, keys_as}
use Rattle.hierarchies_to_sql.proofs.rule_selects.push_keys.Goals as goal

pub loop-identifier-init : goal.loop-identifier-init
loop-identifier-init c = none_behind c.args.items.now.items (shown c.args.columns.now)

pub loop-identifier-preserved : goal.loop-identifier-preserved
loop-identifier-preserved c =
    let xs = c.args.identifiers.now in
    let ys = shown c.args.columns.now in
    let i = c.loop-identifier.identifier-index in
    let x = c.identifier-item.result in
    let f = key_as c.args.id.now c.args.alias.now c.args.item.now in
    let old = c.args.items.now.items in
    let new = c.push_next.new.items.items in
    let done = keys_as c.args.id.now c.args.alias.now c.args.item.now (shown (take i xs)) in
    let next = subst (λ (e : Exp). AreNext c.loop-identifier.items.items new (e ∷ []) ys) c.in_ok-key.ensures c.in_ok-push_next.ensures in
    subst (λ (l : List Exp). AreNext old new l ys) (sym (each_more f xs i x c.loop-identifier-test.true c.identifier-item.is))
    (next_behind old c.loop-identifier.items.items new done (f x.now ∷ []) ys c.loop-identifier.invariant next)

pub returns : goal.returns
returns c = subst (λ l. AreNext c.args.items.now.items c.loop-identifier.items.items (keys_as c.args.id.now c.args.alias.now c.args.item.now (shown l)) (shown c.args.columns.now)) (take_all c.loop-identifier.identifier-index c.args.identifiers.now c.loop-identifier-test.false) c.loop-identifier.invariant
