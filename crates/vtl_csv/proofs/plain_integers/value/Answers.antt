use Rattle.std.proofs.Common.{◌≡◌, ◌+◌, ◌*◌, true, get_or, arith, ap, sym, ◌∙◌}
use Rattle.std.specs.Char.{is_ascii_digit}
use Rattle.vtl_csv.proofs.PlainIntegerLemmas.{below_power, digits_more, value_more, value_small}
use Rattle.vtl_csv.proofs.plain_integers.value.Goals as goal

pub overflow_mul-value : goal.overflow_mul-value
overflow_mul-value c =
    let i = c.loop-digit.digit-index in
    let small = below_power c.loop-digit.value i 17 (omega (arith, c.requires, c.loop-digit-test.true)) c.loop-digit.invariant.small in
    omega (arith, small)

pub overflow_add-value : goal.overflow_add-value
overflow_add-value c =
    let i = c.loop-digit.digit-index in
    let small = below_power c.loop-digit.value i 17 (omega (arith, c.requires, c.loop-digit-test.true)) c.loop-digit.invariant.small in
    omega (arith, small, c.from.ensures)

pub loop-digit-preserved : goal.loop-digit-preserved
loop-digit-preserved c =
    let ds = c.args.digits.now in
    let i = c.loop-digit.digit-index in
    let is : is_ascii_digit (get_or ds i 0) ≡ true = sym c.is_ascii_digit.ensures.value ∙ c.if-not-is_ascii_digit.false in
    let worth = ap (λ d. c.loop-digit.value * 10 + d) c.from.ensures in
    record {
      digits = digits_more ds i c.loop-digit-test.true c.loop-digit.invariant.digits is;
      value = worth ∙ value_more c.loop-digit.value ds i c.loop-digit-test.true is c.loop-digit.invariant.value;
      small = omega (arith, worth, value_small c.loop-digit.value (get_or ds i 0) i is c.loop-digit.invariant.small);
    }
