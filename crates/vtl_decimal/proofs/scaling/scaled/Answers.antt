use Rattle.std.proofs.Common.{◌≡◌, ◌+◌, ◌++◌, ◌<ℤ◌, ◌≤ℤ◌, pos, length, arith, refl, ap, ◌∙◌}
use Rattle.std.specs.Prelude.{unsigned_abs}
use Rattle.std.specs.Str.Parse.{digits_value}
use Rattle.std.proofs.lemmas.Int.{to_z-of_z, ints}
use Rattle.vtl_decimal.specs.Numeral.{raised, lowered}
use Rattle.vtl_decimal.proofs.ScalingLemmas.{scaled_down, scaled_up, scaled_too_large, moved_right, moved_left}
use Rattle.vtl_decimal.proofs.scaling.scaled.Goals as goal

pub returns-in_err-units : goal.returns-in_err-units
returns-in_err-units c =
    let n = c.args.n.now in
    let shift = c.places_to_left-shift.result in
    let places : c.unsigned_abs-places.result ≡ unsigned_abs shift = grind (arith, to_z-of_z) in
    let high : pos 0 ≤ℤ shift = grind (arith, ints) in
    let moved = moved_left c.args.scale (length n.fraction.now) n.exponent shift c.places_to_left-shift.ensures high in
    rw c.from_residual.ensures
    (scaled_too_large (digits_value 10 (n.whole.now ++ n.fraction.now)) (c.args.scale + raised n.exponent) (length n.fraction.now + lowered n.exponent)
    c.unsigned_abs-places.result (ap (λ k. k + (length n.fraction.now + lowered n.exponent)) places ∙ moved) c.in_err-units.ensures.value)

pub returns-then-shift-lt0 : goal.returns-then-shift-lt0
returns-then-shift-lt0 c =
    let n = c.args.n.now in
    let shift = c.places_to_left-shift.result in
    let places : c.unsigned_abs-places.result ≡ unsigned_abs shift = grind (arith, to_z-of_z) in
    let low : shift <ℤ pos 0 = grind (arith, ints) in
    let moved = moved_right c.args.scale (length n.fraction.now) n.exponent shift c.places_to_left-shift.ensures low in
    scaled_down (digits_value 10 (n.whole.now ++ n.fraction.now)) (c.args.scale + raised n.exponent) (length n.fraction.now + lowered n.exponent)
    c.unsigned_abs-places.result c.divided_by_power.result (ap (λ k. k + (c.args.scale + raised n.exponent)) places ∙ moved) c.divided_by_power.ensures

pub returns : goal.returns
returns c =
    let n = c.args.n.now in
    let shift = c.places_to_left-shift.result in
    let places : c.unsigned_abs-places.result ≡ unsigned_abs shift = grind (arith, to_z-of_z) in
    let high : pos 0 ≤ℤ shift = grind (arith, ints) in
    let moved = moved_left c.args.scale (length n.fraction.now) n.exponent shift c.places_to_left-shift.ensures high in
    scaled_up (digits_value 10 (n.whole.now ++ n.fraction.now)) (c.args.scale + raised n.exponent) (length n.fraction.now + lowered n.exponent)
    c.unsigned_abs-places.result _ (ap (λ k. k + (length n.fraction.now + lowered n.exponent)) places ∙ moved)
    c.in_ok-units.ensures.value c.in_ok-units.ensures.bound refl
