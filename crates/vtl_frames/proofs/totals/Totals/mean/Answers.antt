use Rattle.std.proofs.Common.{◌≤◌, ◌^◌, sym, ap, arith}
use Rattle.vtl_cell.specs.ScalarArithmetic.{number}
use Rattle.vtl_agg.specs.Added.{units_in}
use Rattle.vtl_agg.proofs.FarLemmas.{far_mean}
use Rattle.vtl_frames.specs.Totals.{sums_in}
use Rattle.vtl_frames.proofs.totals.Totals.mean.Goals as goal

pub returns-in-None : goal.returns-in-None
returns-in-None c =
    let t = c.args.self.now in
    let p = c.args.p.now in
    let few : t.count ≤ 2 ^ 63 = omega (arith, c.requires.room.count) in
    sym (ap number (far_mean p.rounding (units_in p (sums_in t)) t.count c.requires.some few c.in-None.ensures.none))
