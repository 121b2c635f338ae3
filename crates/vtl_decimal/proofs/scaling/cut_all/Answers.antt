use Rattle.std.proofs.Common.{◌++◌, ◌<◌, length, length-append, arith, refl, sym, ◌∙◌}
use Rattle.vtl_decimal.proofs.DigitLemmas.{all_ascii_digits-append}
use Rattle.vtl_decimal.proofs.ScalingLemmas.{below_one_nonzero, below_one_zero}
use Rattle.vtl_decimal.proofs.scaling.cut_all.Goals as goal

pub returns-then-any_nonzero_of : goal.returns-then-any_nonzero_of
returns-then-any_nonzero_of c =
    let ds = c.args.whole.now ++ c.args.fraction.now in
    let digits = all_ascii_digits-append c.args.whole.now c.args.fraction.now c.requires.whole_digits c.requires.fraction_digits in
    let short : length ds < c.args.dropped = omega (arith, length-append c.args.whole.now c.args.fraction.now) in
    below_one_nonzero ds c.args.dropped _ digits short (sym c.any_nonzero_of.ensures ∙ c.if-any_nonzero_of.true) refl refl

pub returns-else-any_nonzero_of : goal.returns-else-any_nonzero_of
returns-else-any_nonzero_of c =
    let ds = c.args.whole.now ++ c.args.fraction.now in
    let digits = all_ascii_digits-append c.args.whole.now c.args.fraction.now c.requires.whole_digits c.requires.fraction_digits in
    let short : length ds < c.args.dropped = omega (arith, length-append c.args.whole.now c.args.fraction.now) in
    below_one_zero ds c.args.dropped _ digits short (sym c.any_nonzero_of.ensures ∙ c.if-any_nonzero_of.false) refl refl
