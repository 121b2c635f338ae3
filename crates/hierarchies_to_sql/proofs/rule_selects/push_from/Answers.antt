use Rattle.std.proofs.Common.{[], ◌∷◌, List, map, subst, sym, take}
use Rattle.std.proofs.lemmas.List.{take_all}
use Rattle.vtl_tree.specs.Shown.{shown}
use Rattle.sql_tree.specs.Trees.{Exp}
use Rattle.joins_to_sql.specs.JoinItems.{column_from}
use Rattle.selects_to_sql.specs.NamedItems.{AreNext}
use Rattle.selects_to_sql.proofs.NamedItems.{each_more, next_behind, none_behind}
use Rattle.hierarchies_to_sql.proofs.rule_selects.push_from.Goals as goal

pub loop-component-init : goal.loop-component-init
loop-component-init c = none_behind c.args.items.now.items (shown c.args.columns.now)

pub loop-component-preserved : goal.loop-component-preserved
loop-component-preserved c =
    let xs = c.args.components.now in
    let ys = shown c.args.columns.now in
    let i = c.loop-component.component-index in
    let x = c.component-item.result in
    let f = column_from c.args.alias.now in
    let old = c.args.items.now.items in
    let new = c.push_next.new.items.items in
    let done = map f (shown (take i xs)) in
    let next = subst (λ (e : Exp). AreNext c.loop-component.items.items new (e ∷ []) ys) c.in_ok-column.ensures c.in_ok-push_next.ensures in
    subst (λ (l : List Exp). AreNext old new l ys) (sym (each_more f xs i x c.loop-component-test.true c.component-item.is))
    (next_behind old c.loop-component.items.items new done (f x.now ∷ []) ys c.loop-component.invariant next)

pub returns : goal.returns
returns c = subst (λ l. AreNext c.args.items.now.items c.loop-component.items.items (map (column_from c.args.alias.now) (shown l)) (shown c.args.columns.now)) (take_all c.loop-component.component-index c.args.components.now c.loop-component-test.false) c.loop-component.invariant
