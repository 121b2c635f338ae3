use Rattle.std.proofs.Common.{ℕ, ◌≡◌, ◌+◌, ◌/◌, ◌%◌, Bool, true, false, cond, refl, ap, subst, ◌∙◌, rules, FitsSigned}
use Rattle.std.specs.Int.{w64, w128, from_bool}
use Rattle.std.specs.Prelude.{◌==◌}
use Rattle.std.specs.Result.{result_ok}
use Rattle.std.proofs.lemmas.Int.{to_z-of_z}
use Rattle.vtl_decimal.specs.Divided.{IsDivided}
use Rattle.vtl_decimal.specs.Numeral.{numerator, denominator, signed}
use Rattle.vtl_decimal.specs.Parsed.{numeral_view}
use Rattle.vtl_decimal.specs.Range.{fit_number}
use Rattle.vtl_decimal.specs.Rounding.{rounds_up}
use Rattle.vtl_decimal.proofs.ValueLemmas.{number_from, denominator_some}
use Rattle.vtl_decimal.proofs.reading.number.Goals as goal

byte_is : (b : Bool) → from_bool b ≡ cond b 1 0
byte_is true = refl
byte_is false = refl

pub returns : goal.returns
returns c =
    let p = c.args.p.now in
    let n = numeral_view c.args.n.now in
    let d = c.in_ok-divided.divided in
    let v = numerator p.scale n in
    let q = denominator n in
    let P : ℕ → Type 0 = λ s. IsDivided (numerator s n) q d in
    let is = subst P c.scale.ensures.value c.in_ok-divided.ensures in
    let odd : (d.units % 2 == 1) ≡ (v / q % 2 == 1) = ap (λ z. z % 2 == 1) is.units in
    let up = c.goes_up.ensures (v / q) (v % q) q (denominator_some n) odd is.rest ∙ ap (λ m. rounds_up m (v / q) (v % q) q) c.rounding.ensures in
    let value = number_from p n d c.goes_up.result is up in
    let one = c.from.ensures ∙ byte_is c.goes_up.result in
    let size = c.with_sign.ensures ∙ ap (λ u. signed n.negative (d.units + u)) one in
    let narrow : FitsSigned w64 c.with_sign.result = search rules in
    let wide : FitsSigned w128 c.from-2.result = search rules in
    let k = to_z-of_z w128 c.from-2.result wide ∙ (c.from-2.ensures ∙ (to_z-of_z w64 c.with_sign.result narrow ∙ size)) in
    c.ok.ensures.value ∙ (ap result_ok (c.fit.ensures ∙ ap fit_number k) ∙ value)
