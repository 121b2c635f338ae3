use Rattle.std.proofs.Common.{◌++◌, ◌<◌, arith}
use Rattle.std.specs.Str.Parse.{digits_value}
use Rattle.vtl_decimal.proofs.ScalingLemmas.{zeros_grow, zeros_too_many}
use Rattle.vtl_decimal.proofs.scaling.times_power.Goals as goal

pub returns-in_err-value-clause-value : goal.returns-in_err-value-clause-value
returns-in_err-value-clause-value c =
    rw c.from_residual.ensures (omega (arith, zeros_grow (digits_value 10 (c.args.whole.now ++ c.args.fraction.now)) c.args.zeros, c.in_err-value.ensures.value))

pub returns-then-zeros-gt18-clause-value : goal.returns-then-zeros-gt18-clause-value
returns-then-zeros-gt18-clause-value c =
    let some : 0 < digits_value 10 (c.args.whole.now ++ c.args.fraction.now) = omega (arith, c.in_ok-value.ensures.value) in
    zeros_too_many (digits_value 10 (c.args.whole.now ++ c.args.fraction.now)) c.args.zeros some (omega arith)
