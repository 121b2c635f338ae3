use Rattle.std.proofs.Common.{◌≡◌, ◌<◌, ◌%◌, ◌++◌, ◌∷◌, ap, sym, ◌∙◌, append-nil, arith}
use Rattle.vtl_decimal.specs.Written.{last_digits, shortest_digits, behind_point}
use Rattle.vtl_decimal.proofs.WritingLemmas.{behind_point_some, behind_point_none}
use Rattle.vtl_decimal.proofs.writing.push_fraction.Goals as goal
use Rattle.vtl_decimal.proofs.writing.push_fraction.Goals.{then-loop-width-test+else-rest-eq0, else-loop-width-test}

pub returns-then-width-gt0-clause-text : goal.returns-then-width-gt0-clause-text
returns-then-width-gt0-clause-text c =
    let w = c.loop-width.width in
    let n = c.loop-width.rest in
    let last : 0 < n % 10 =
    elim c.loop-width-test.branch [
      | then-loop-width-test+else-rest-eq0 b ↦ omega arith
      | else-loop-width-test b ↦ omega arith
    ] in
    let digits : c.push_digits.new.line ≡ last_digits w n =
    c.push_digits.ensures.text ∙ (ap (λ t. last_digits w n ++ t) c.requires.empty ∙ append-nil (last_digits w n)) in
    c.push_front.ensures
    ∙ (ap (λ t. 46 ∷ t) digits
    ∙ (sym (behind_point_some w n c.if-width-gt0.true last)
    ∙ ap behind_point c.loop-width.invariant.same))

pub returns-else-width-gt0-clause-text : goal.returns-else-width-gt0-clause-text
returns-else-width-gt0-clause-text c =
    let none : c.loop-width.width ≡ 0 = omega arith in
    c.requires.empty
    ∙ (sym (behind_point_none c.loop-width.rest)
    ∙ (ap (λ w. behind_point (shortest_digits w c.loop-width.rest)) (sym none)
    ∙ ap behind_point c.loop-width.invariant.same))
