use Rattle.std.proofs.Common.{◌≡◌, ap, ◌∙◌, arith}
use Rattle.std.specs.Prelude.{unsigned_abs}
use Rattle.std.proofs.lemmas.Int.{to_z-of_z}
use Rattle.vtl_agg.specs.Added.{with_sign}
use Rattle.vtl_decimal.specs.Range.{fit_number}
use Rattle.vtl_decimal.specs.Rounding.{rounded_size}
use Rattle.vtl_agg.specs.Quotients.{has_minus}
use Rattle.vtl_agg.proofs.QuotientLemmas.{minus_is}
use Rattle.vtl_agg.proofs.numbers.quotient.Goals as goal

pub returns : goal.returns
returns c =
    let m = c.args.rounding in
    let p = c.args.dividend in
    let q = c.args.divisor in
    let size : c.rounded_size_of-size.result ≡ rounded_size m (unsigned_abs p) (unsigned_abs q) = grind (arith, to_z-of_z) in
    let minus : c.has_minus.result ≡ has_minus p q = grind (arith, to_z-of_z) in
    c.signed.ensures ∙ ap (λ b. fit_number (with_sign b c.rounded_size_of-size.result)) minus ∙ ap (λ n. fit_number (with_sign (has_minus p q) n)) size
    ∙ ap fit_number (minus_is m p q)
