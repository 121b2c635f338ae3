use Rattle.std.proofs.Common.{◌≤◌, ◌+◌, length, arith}
use Rattle.vtl_rows.proofs.Strict.{strictly_apart}
use Rattle.vtl_rows.proofs.repeats.rise_strictly.Goals as goal

pub returns : goal.returns
returns c =
    let ended : length c.args.places.now ≤ c.loop-i.i + 1 = omega arith in
    strictly_apart c.args.keys.now c.args.table.now.rows c.args.places.now c.requires c.loop-i.i c.loop-i.invariant ended
