use Rattle.std.proofs.Common.{◌-◌, ◌^◌, arith}
use Rattle.std.proofs.Math.Nat.{div-le_self}
use Rattle.vtl_pages.proofs.Runs.{later_spot}
use Rattle.vtl_pages.proofs.moving.find_run.Goals as goal

pub overflow_add-result : goal.overflow_add-result
overflow_add-result c =
    let past = c.if-r-front.false in let some = c.requires.some in let fits = c.ranges.r.fits in
    record { fits = omega (arith, div-le_self (c.args.r - c.args.front) (2 ^ c.args.shift)) }

pub returns-clause-spot : goal.returns-clause-spot
returns-clause-spot c = later_spot c.args.width c.args.front c.args.runs c.args.shift c.requires.power c.args.r c.if-r-front.false
