use Rattle.std.proofs.Common.{◌<◌, ◌≤◌, length, arith, rules}
use Rattle.vtl_csv.proofs.PlainIntegerLemmas.{short_if, spelled_if}
use Rattle.vtl_csv.proofs.plain_integers.plain_size.Goals as goal

pub returns-clause-spelled : goal.returns-clause-spelled
returns-clause-spelled c =
    let ds = c.args.digits.now in
    let some : 0 < length ds = search rules in
    let few : length ds ≤ 18 = omega (arith, c.requires, c.if-digits-most.false) in
    spelled_if ds c.value.result some few (c.has_needless_zero.ensures c.if-has_needless_zero.false) c.value.ensures.digits c.value.ensures.value

pub returns-clause-fits : goal.returns-clause-fits
returns-clause-fits c =
    short_if c.args.digits.now c.value.result c.args.most c.if-digits-most.false c.value.ensures.digits c.value.ensures.value
