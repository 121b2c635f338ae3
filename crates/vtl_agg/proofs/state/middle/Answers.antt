use Rattle.std.proofs.Common.{◌≡◌, ◌-◌, ◌/◌, length, pos, refl, ap, ◌∙◌, arith}
use Rattle.std.specs.Prelude.{◌+ℤ◌}
use Rattle.std.proofs.lemmas.Int.{to_z-of_z}
use Rattle.vtl_decimal.specs.Range.{fit_number}
use Rattle.vtl_decimal.specs.Rounding.{rounded_quotient}
use Rattle.vtl_cell.specs.Groups.{at}
use Rattle.vtl_cell.specs.ScalarArithmetic.{number}
use Rattle.vtl_agg.proofs.MiddleLemmas.{middle_of_two}
use Rattle.vtl_agg.proofs.state.middle.Goals as goal

pub returns : goal.returns
returns c =
    let p = c.args.p.now in
    let ks = c.args.units.now in
    let i = (length ks - 1) / 2 in
    let j = length ks / 2 in
    let value : c.half_sum.result ≡ number (fit_number (rounded_quotient p.rounding (at ks i +ℤ at ks j) (pos 2))) = grind (arith, to_z-of_z) in
    value ∙ ap (λ z. number (fit_number z)) (middle_of_two p ks i j c.requires refl refl)
