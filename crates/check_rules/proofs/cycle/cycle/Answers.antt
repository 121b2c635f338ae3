use Rattle.std.proofs.Common.{ℕ, List, [], ◌++◌, arith, sym, subst, append-nil}
use Rattle.std.proofs.lemmas.List.{drop_all}
use Rattle.vtl_syntax.specs.declared.statements.HierRule.{HierRule}
use Rattle.check_rules.specs.Order.{DependsOn, Picked, computed_items, none}
use Rattle.check_rules.proofs.Finding.{adds_more}
use Rattle.check_rules.proofs.cycle.cycle.Goals as goal

pub loop-place-init : goal.loop-place-init
loop-place-init c = λ rest p. subst (λ (l : List (List ℕ)). Picked (λ item. DependsOn c.args.rules.now item item) (computed_items c.args.rules.now) (l ++ rest)) (sym c.new-items.ensures.items) p

pub loop-place-preserved : goal.loop-place-preserved
loop-place-preserved c =
    adds_more c.args.rules.now c.loop-place.place c.index-rules-place.result c.loop-place.items.items c.push_circular.new.items.items (omega arith) c.index-rules-place.is c.in_ok-push_circular.ensures c.loop-place.invariant

pub returns : goal.returns
returns c =
    let done : Picked (λ item. DependsOn c.args.rules.now item item) (computed_items c.args.rules.now) (c.loop-place.items.items ++ []) =
    c.loop-place.invariant [] (subst (λ (l : List HierRule). Picked (λ item. DependsOn c.args.rules.now item item) (computed_items l) []) (sym (drop_all c.loop-place.place c.args.rules.now (omega arith))) none) in
    subst (λ (l : List (List ℕ)). Picked (λ item. DependsOn c.args.rules.now item item) (computed_items c.args.rules.now) l) (append-nil c.loop-place.items.items) done
