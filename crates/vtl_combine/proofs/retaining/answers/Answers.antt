use Rattle.std.proofs.Common.{◌∙◌, ap, length, map, ℕ}
use Rattle.std.specs.Prelude.{nat_lt}
use Rattle.std.proofs.lemmas.List.{take_all}
use Rattle.vtl_combine.proofs.AnswerLemmas.{answers_are}
use Rattle.vtl_combine.proofs.retaining.answers.Goals as goal

pub returns : goal.returns
returns g c =
    let x = c.args.seeker.now in
    let firsts = c.deref-first-items.result.now in
    c.loop-first.invariant ∙ ap (map (λ (i : ℕ). nat_lt i (length x.rows))) (take_all c.loop-first.first-index firsts c.loop-first-test.false ∙ c.deref-first-items.ensures.value ∙ c.in_ok-firsts.ensures.places) ∙ answers_are x c.args.asking.now.rows
