use Rattle.std.proofs.Common.{◌≡◌, ◌∙◌, ◌+◌, ◌++◌, ◌∷◌, [], List, false, map, take, ap, subst, sym}
use Rattle.std.specs.Borrow.{Bor}
use Rattle.std.specs.List.{AllByRecursion}
use Rattle.std.proofs.lemmas.List.{map-append}
use Rattle.vtl_lists.proofs.Alls.{all_push}
use Rattle.sql_tree.specs.Trees.{Exp}
use Rattle.sql_tree.specs.View.{expr_tree}
use Rattle.sql_tree.specs.declared.expressions.SqlExpr.{SqlExpr}
use Rattle.sql_meaning.proofs.Lists.{all_parted}
use Rattle.sql_from.specs.Asking.{asks}
use Rattle.sql_from.specs.Conditions.{trees_of}
use Rattle.sql_from.specs.Joins.{Test}
use Rattle.sql_from.specs.Standing.{condition_at}
use Rattle.sql_from.specs.Tried.{value_of}
use Rattle.sql_from.specs.declared.source_condition.SourceCondition.{SourceCondition}
use Rattle.sql_from.proofs.Conditioned.{all_taken, trees_more}
use Rattle.sql_from.proofs.conditions.Conditions.of.Goals as goal

pub loop-condition-preserved : goal.loop-condition-preserved
loop-condition-preserved g c =
    let p = c.args.p.now in
    let s = c.args.sources.now in
    let conditions = c.args.conditions.now in
    let i = c.loop-condition.condition-index in
    let parts = c.loop-condition.parts.items in
    let x : Bor SqlExpr = c.condition-item.result in
    let part = c.in_ok-of.field-0 in
    let step : trees_of (take (i + 1) conditions) ≡ trees_of (take i conditions) ++ expr_tree x.now ∷ [] = trees_more conditions i x c.loop-condition-test.true c.condition-item.is in
    let old : List Test = map (condition_at p s) (trees_of (take i conditions)) in
    let made : map value_of c.push.new.self.items ≡ old ++ condition_at p s (expr_tree x.now) ∷ [] =
    ap (map value_of) c.in_ok-push.ensures.items ∙ map-append value_of parts (part ∷ []) ∙ (λ k. c.loop-condition.invariant.values k ++ c.in_ok-of.ensures.value k ∷ []) in
    let meant : map (condition_at p s) (trees_of (take (i + 1) conditions)) ≡ old ++ condition_at p s (expr_tree x.now) ∷ [] = ap (map (condition_at p s)) step ∙ map-append (condition_at p s) (trees_of (take i conditions)) (expr_tree x.now ∷ []) in
    record {
      values = made ∙ sym meant;
      same = subst (AllByRecursion (λ (y : SourceCondition). y.partners ≡ s)) (sym c.in_ok-push.ensures.items) (all_push (λ (y : SourceCondition). y.partners ≡ s) parts part c.loop-condition.invariant.same c.in_ok-of.ensures.sources);
      steps = λ silent.
          let both = all_parted (λ (e : Exp). asks e ≡ false) (trees_of (take i conditions)) (expr_tree x.now ∷ []) (subst (AllByRecursion (λ (e : Exp). asks e ≡ false)) step silent) in
          c.of.ensures.steps both.1.0 ∙ c.loop-condition.invariant.steps both.0;
    }

pub returns-in_err-of-clause-steps : goal.returns-in_err-of-clause-steps
returns-in_err-of-clause-steps g c silent =
    let conditions = c.args.conditions.now in
    let i = c.loop-condition.condition-index in
    let x : Bor SqlExpr = c.condition-item.result in
    let step = trees_more conditions i x c.loop-condition-test.true c.condition-item.is in
    let both = all_parted (λ (e : Exp). asks e ≡ false) (trees_of (take i conditions)) (expr_tree x.now ∷ []) (subst (AllByRecursion (λ (e : Exp). asks e ≡ false)) step (all_taken (λ (e : Exp). asks e ≡ false) conditions (i + 1) silent)) in
    c.of.ensures.steps both.1.0 ∙ c.loop-condition.invariant.steps both.0

pub returns-in_err-push-clause-steps : goal.returns-in_err-push-clause-steps
returns-in_err-push-clause-steps g c silent =
    let conditions = c.args.conditions.now in
    let i = c.loop-condition.condition-index in
    let x : Bor SqlExpr = c.condition-item.result in
    let step = trees_more conditions i x c.loop-condition-test.true c.condition-item.is in
    let both = all_parted (λ (e : Exp). asks e ≡ false) (trees_of (take i conditions)) (expr_tree x.now ∷ []) (subst (AllByRecursion (λ (e : Exp). asks e ≡ false)) step (all_taken (λ (e : Exp). asks e ≡ false) conditions (i + 1) silent)) in
    c.of.ensures.steps both.1.0 ∙ c.loop-condition.invariant.steps both.0
