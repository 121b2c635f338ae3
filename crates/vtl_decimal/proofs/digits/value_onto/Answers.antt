use Rattle.std.proofs.Common.{arith}
use Rattle.vtl_decimal.proofs.DigitLemmas.{value_after-at_least}
use Rattle.vtl_decimal.proofs.digits.value_onto.Goals as goal

pub returns-then-value-ge-LIMIT-clause-value : goal.returns-then-value-ge-LIMIT-clause-value
returns-then-value-ge-LIMIT-clause-value c =
    value_after-at_least c.loop-digit.value c.args.digits.now c.loop-digit.digit-index _ _ c.requires.digits
    c.loop-digit-test.true c.loop-digit.invariant.rest (omega arith)
