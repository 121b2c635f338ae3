use Rattle.std.proofs.Common.{◌<◌, ◌^◌, ◌-◌, ◌∷◌, cond, ap, sym, subst, ◌∙◌, arith}
use Rattle.std.specs.Fmt.{decimal}
use Rattle.vtl_csv.proofs.PlainIntegerLemmas.{below_power, integer_read_if, plain_utf8, utf8_if}
use Rattle.vtl_csv.proofs.plain_integers.plain_integer.Goals as goal

pub with_sign-requires : goal.with_sign-requires
with_sign-requires c = below_power c.in_ok-size.size _ 18 (omega arith) c.in_ok-size.ensures.fits

pub returns-clause-utf8 : goal.returns-clause-utf8
returns-clause-utf8 c =
    let is_negative = c.split_minus-is_negative.result.0 in
    let size = c.in_ok-size.size in
    let field = ap (λ ds. cond is_negative (45 ∷ ds) ds) c.in_ok-size.ensures.spelled ∙ sym c.split_minus-is_negative.ensures in
    let small = below_power size _ 18 (omega arith) c.in_ok-size.ensures.fits in
    utf8_if c.with_sign.result c.args.field.now (cond is_negative (45 ∷ decimal size) (decimal size)) field (plain_utf8 is_negative size small)

pub returns-clause-read : goal.returns-clause-read
returns-clause-read c =
    let is_negative = c.split_minus-is_negative.result.0 in
    let size = c.in_ok-size.size in
    let field = ap (λ ds. cond is_negative (45 ∷ ds) ds) c.in_ok-size.ensures.spelled ∙ sym c.split_minus-is_negative.ensures in
    let most = ap (λ n. 18 - n) (c.from-most.ensures ∙ c.scale.ensures.value) in
    let small = subst (λ n. size < 10 ^ n) most c.in_ok-size.ensures.fits in
    integer_read_if c.args.profile.now c.args.field.now (cond is_negative (45 ∷ decimal size) (decimal size)) size c.with_sign.result field small c.with_sign.ensures.spelled c.with_sign.ensures.size
