use Rattle.std.proofs.Common.{◌++◌}
use Rattle.vtl_decimal.proofs.DigitLemmas.{all_ascii_digits-append}
use Rattle.vtl_decimal.proofs.ScalingLemmas.{cut_divides, cut_too_large}
use Rattle.vtl_decimal.proofs.scaling.cut.Goals as goal

pub returns-in_err-units : goal.returns-in_err-units
returns-in_err-units c =
    let front = c.args.kept.now ++ c.args.more_kept.now in
    let back = c.args.dropped.now ++ c.args.more_dropped.now in
    let digits = all_ascii_digits-append c.args.dropped.now c.args.more_dropped.now c.requires.dropped_digits c.requires.more_dropped_digits in
    rw c.from_residual.ensures (cut_too_large front back digits c.in_err-units.ensures.value)

pub returns : goal.returns
returns c =
    let front = c.args.kept.now ++ c.args.more_kept.now in
    let back = c.args.dropped.now ++ c.args.more_dropped.now in
    let front_digits = all_ascii_digits-append c.args.kept.now c.args.more_kept.now c.requires.kept_digits c.requires.more_kept_digits in
    let digits = all_ascii_digits-append c.args.dropped.now c.args.more_dropped.now c.requires.dropped_digits c.requires.more_dropped_digits in
    cut_divides front back _ front_digits digits c.in_ok-units.ensures.value c.in_ok-units.ensures.bound c.rest_of_digits-rest.ensures
