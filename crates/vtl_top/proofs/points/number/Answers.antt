use Rattle.std.proofs.Common.{◌+◌, ◌*◌, ◌-◌, cond, drop, get_or, None, sym, ap, ◌∙◌}
use Rattle.std.proofs.lemmas.List.{at_drop_more, at_drop_all}
use Rattle.vtl_time.proofs.NumeralLemmas.{number_from, number_in_digits-from}
use Rattle.vtl_top.proofs.points.number.Goals as goal

pub returns-then-not-is_ascii_digit : goal.returns-then-not-is_ascii_digit
returns-then-not-is_ascii_digit c =
    let ds = c.args.digits.now in
    let i = c.loop-digit.digit-index in
    let v = c.loop-digit.value in
    let step = at_drop_more (number_from v) ds i 0 c.loop-digit-test.true in
    let stop = ap (λ b. cond b (number_from (v * 10 + (get_or ds i 0 - 48)) (drop (i + 1) ds)) None) (sym c.is_ascii_digit.ensures.value ∙ c.if-not-is_ascii_digit.true) in
    sym (number_in_digits-from ds ∙ sym c.loop-digit.invariant.0 ∙ step ∙ stop)

pub returns : goal.returns
returns c =
    let ds = c.args.digits.now in
    sym (number_in_digits-from ds ∙ sym c.loop-digit.invariant.0 ∙ at_drop_all (number_from c.loop-digit.value) ds c.loop-digit.digit-index c.loop-digit-test.false)
