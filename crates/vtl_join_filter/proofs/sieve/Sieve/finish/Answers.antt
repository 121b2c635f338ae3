use Rattle.std.proofs.Common.{sym, subst, ◌∙◌}
use Rattle.vtl_cell.specs.Outcome.{unless}
use Rattle.vtl_scalar.specs.Answers.{AnswersBy}
use Rattle.vtl_join_filter.specs.Sifting.{Sifted}
use Rattle.vtl_join_filter.proofs.Sifts.{all_asked}
use Rattle.vtl_join_filter.proofs.sieve.Sieve.finish.Goals as goal

pub returns-clause-rows : goal.returns-clause-rows
returns-clause-rows c =
    let now = c.in_ok-settle.ensures in
    subst (λ (x : Sifted). AnswersBy (λ t. t.rows) c.ended.result (unless x.fault x.rows)) (sym (all_asked c.args.asked.now c.settle.new.self now.ready.some now.empty) ∙ now.found) c.ended.ensures.rows
