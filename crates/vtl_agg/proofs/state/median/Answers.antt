use Rattle.std.proofs.Common.{◌<◌, length, ap, ◌∙◌, arith}
use Rattle.vtl_decimal.specs.Range.{fit_number}
use Rattle.vtl_cell.specs.Groups.{middle_of}
use Rattle.vtl_cell.specs.ScalarArithmetic.{number}
use Rattle.vtl_agg.proofs.MiddleLemmas.{median_by_order}
use Rattle.vtl_agg.proofs.state.median.Goals as goal

pub returns : goal.returns
returns c =
    let p = c.args.p.now in
    let ks = c.args.units.items in
    let some : 0 < length ks = grind (arith, c.is_empty.ensures, c.if-is_empty.false) in
    c.middle.ensures
    ∙ ap (λ zs. number (fit_number (middle_of p zs))) c.deref.ensures.value
    ∙ median_by_order p ks c.sort_unstable.new.self.items some c.sort_unstable.ensures.permutation c.sort_unstable.ensures.sorted
