use Rattle.std.proofs.Common.{◌≡◌, ◌∙◌, ◌+◌, ◌++◌, ◌∷◌, [], List, true≢false, subst, sym, take}
use Rattle.std.proofs.lemmas.List.{take_all}
use Rattle.std.specs.Borrow.{Bor}
use Rattle.sql_tree.specs.Trees.{Exp}
use Rattle.sql_tree.specs.View.{expr_tree}
use Rattle.sql_tree.specs.declared.expressions.SqlExpr.{SqlExpr}
use Rattle.sql_from.specs.Conditions.{trees_of}
use Rattle.sql_from.specs.Keys.{AllImplied, AllPaired}
use Rattle.sql_from.proofs.Conditioned.{trees_more}
use Rattle.sql_from.proofs.Conjunctions.{all_implied_more, all_paired_more}
use Rattle.sql_from.proofs.Links.{one_linked}
use Rattle.sql_from.proofs.key_lookup.pairs_of.Goals.{then-is_whole, else-is_whole}
use Rattle.sql_from.proofs.key_lookup.pairs_of.Goals as goal

pub loop-condition-preserved : goal.loop-condition-preserved
loop-condition-preserved c =
    let s = c.args.sources.now in
    let lead = c.args.lead in
    let conditions = c.args.conditions.now in
    let i = c.loop-condition.condition-index in
    let x : Bor SqlExpr = c.condition-item.result in
    let before = c.loop-condition.keys.items in
    let behind = c.push_pairs.new.keys.items in
    let es = trees_of (take i conditions) in
    let step : trees_of (take (i + 1) conditions) ≡ es ++ expr_tree x.now ∷ [] = trees_more conditions i x c.loop-condition-test.true c.condition-item.is in
    record {
      implied = subst (λ (ds : List Exp). AllImplied s lead ds behind) (sym step) (all_implied_more s lead es (expr_tree x.now) before behind c.loop-condition.invariant.implied c.in_ok-here.ensures.implied);
      paired = λ e.
          elim c.if-is_whole.branch [
            | then-is_whole w ↦ subst (λ (ds : List Exp). AllPaired s lead ds behind) (sym step)
                (all_paired_more s lead es (expr_tree x.now) before behind (c.loop-condition.invariant.paired w.if-is_whole.true) (c.in_ok-here.ensures.paired (sym w.is_whole-is ∙ e)))
            | else-is_whole w ↦ absurd (true≢false (sym e ∙ w.is_whole-is ∙ w.if-is_whole.false))
          ];
      whole = λ linked.
          elim c.if-is_whole.branch [
            | then-is_whole w ↦ w.is_whole-is ∙ c.in_ok-here.ensures.whole (one_linked s lead conditions i x c.loop-condition-test.true c.condition-item.is linked).links
            | else-is_whole w ↦ absurd (true≢false (sym (c.loop-condition.invariant.whole linked) ∙ w.if-is_whole.false))
          ];
    }

pub returns-clause-implied : goal.returns-clause-implied
returns-clause-implied c =
    subst (λ (cs : List (Bor SqlExpr)). AllImplied c.args.sources.now c.args.lead (trees_of cs) c.loop-condition.keys.items) (take_all c.loop-condition.condition-index c.args.conditions.now c.loop-condition-test.false) c.loop-condition.invariant.implied

pub returns-clause-paired : goal.returns-clause-paired
returns-clause-paired c e =
    subst (λ (cs : List (Bor SqlExpr)). AllPaired c.args.sources.now c.args.lead (trees_of cs) c.loop-condition.keys.items) (take_all c.loop-condition.condition-index c.args.conditions.now c.loop-condition-test.false) (c.loop-condition.invariant.paired e)
