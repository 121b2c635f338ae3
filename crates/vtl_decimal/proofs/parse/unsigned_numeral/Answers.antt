use Rattle.std.proofs.Common.{rules, ap, sym, ◌∙◌, drop, FitsSigned}
use Rattle.std.specs.Int.{w16}
use Rattle.std.specs.List.{before_first}
use Rattle.std.proofs.lemmas.Int.{to_z-of_z}
use Rattle.vtl_decimal.specs.Numeral.{is_mark, is_decimal_point, from_first, exponent_of, with_digits}
use Rattle.vtl_decimal.proofs.NumeralLemmas.{unsigned_numeral_some}
use Rattle.vtl_decimal.proofs.parse.unsigned_numeral.Goals as goal

pub returns : goal.returns
returns c =
    let e = c.in_ok-exponent.exponent in
    let sign = c.args.negative in
    let mark = c.split_at_mark.ensures in
    let whole = c.split_at_point.ensures.before ∙ ap (before_first is_decimal_point) mark.before in
    let rest = c.split_at_point.ensures.rest ∙ ap (from_first is_decimal_point) mark.before in
    let fraction = c.behind_point.ensures ∙ ap (drop 1) rest in
    let spelled = ap exponent_of (sym mark.rest) ∙ sym c.in_ok-exponent.ensures in
    let fits : FitsSigned w16 e = search rules in
    c.with_digits.ensures
    ∙ ap (with_digits sign c.split_at_point.result.0.now c.behind_point.result.now) (to_z-of_z w16 e fits)
    ∙ ap (λ x. with_digits sign x c.behind_point.result.now e) whole
    ∙ ap (λ x. with_digits sign (before_first is_decimal_point (before_first is_mark c.args.text.now)) x e) fraction
    ∙ sym (unsigned_numeral_some sign c.args.text.now e spelled)
