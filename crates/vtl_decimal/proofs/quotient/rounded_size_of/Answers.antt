use Rattle.std.proofs.Common.{◌/◌, ◌%◌, refl, sym, ◌∙◌, arith}
use Rattle.vtl_decimal.proofs.RoundingLemmas.{up_fits}
use Rattle.vtl_decimal.proofs.quotient.rounded_size_of.Goals as goal

pub overflow_add-result : goal.overflow_add-result
overflow_add-result c =
    let p = c.args.dividend in
    let q = c.args.divisor in
    let up = c.goes_up.ensures (p / q) (p % q) q c.requires.divisor_not_zero refl c.classify.ensures in
    let fits = up_fits c.args.rounding p q c.requires.divisor_not_zero (sym c.if-goes_up.true ∙ up) in
    record { fits = omega (arith, c.ranges.dividend.fits) }

pub returns-then-goes_up-clause-bound : goal.returns-then-goes_up-clause-bound
returns-then-goes_up-clause-bound c =
    let p = c.args.dividend in
    let q = c.args.divisor in
    let up = c.goes_up.ensures (p / q) (p % q) q c.requires.divisor_not_zero refl c.classify.ensures in
    up_fits c.args.rounding p q c.requires.divisor_not_zero (sym c.if-goes_up.true ∙ up)
