use Rattle.std.proofs.Common.{◌∙◌, List, true≢false, sym, subst}
use Rattle.std.proofs.lemmas.List.{get_or_default, take_all}
use Rattle.sql_eval.specs.declared.resolved.Tie.{Tie}
use Rattle.sql_from.specs.Partners.{AreTiedBy, AreTiesImplying}
use Rattle.sql_from.proofs.Tied.{implied_step, tied_step}
use Rattle.sql_from.proofs.ties.tied_columns.Goals.{then-is_whole, else-is_whole}
use Rattle.sql_from.proofs.ties.tied_columns.Goals as goal

pub loop-tie-preserved : goal.loop-tie-preserved
loop-tie-preserved c =
    let s = c.args.sources.now in
    let lead = c.args.lead in
    let ties = c.args.ties.now in
    let i = c.loop-tie.tie-index in
    let before = c.loop-tie.keys.items in
    let behind = c.push_tie.new.keys.items in
    record {
      implied = implied_step s lead ties i _ before behind c.loop-tie-test.true (get_or_default ties i _ _ c.loop-tie-test.true) c.loop-tie.invariant.implied c.in_ok-here.ensures.implied;
      tied = λ e.
          elim c.if-is_whole.branch [
            | then-is_whole w ↦ tied_step s lead ties i _ before behind c.loop-tie-test.true (get_or_default ties i _ _ c.loop-tie-test.true) (c.loop-tie.invariant.tied w.if-is_whole.true) (c.in_ok-here.ensures.tied (sym w.is_whole-is ∙ e))
            | else-is_whole w ↦ absurd (true≢false (sym e ∙ w.is_whole-is ∙ w.if-is_whole.false))
          ];
    }

pub returns-clause-implied : goal.returns-clause-implied
returns-clause-implied c = subst (λ (ties : List Tie). AreTiesImplying c.args.sources.now c.args.lead ties c.loop-tie.keys.items) (take_all c.loop-tie.tie-index c.args.ties.now c.loop-tie-test.false) c.loop-tie.invariant.implied

pub returns-clause-tied : goal.returns-clause-tied
returns-clause-tied c e = subst (λ (ties : List Tie). AreTiedBy c.args.sources.now c.args.lead ties c.loop-tie.keys.items) (take_all c.loop-tie.tie-index c.args.ties.now c.loop-tie-test.false) (c.loop-tie.invariant.tied e)
