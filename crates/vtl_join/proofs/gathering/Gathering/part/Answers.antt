use Rattle.std.proofs.Common.{◌≡◌, ◌<◌, length, arith}
use Rattle.vtl_join.proofs.Gatherings.{part_is}
use Rattle.vtl_join.proofs.gathering.Gathering.part.Goals as goal

pub returns-then-place-len : goal.returns-then-place-len
returns-then-place-len c =
    let within : c.args.place < length c.self.inside.parts.items = omega (arith, c.if-place-len.true, c.len.ensures) in
    part_is c.self.inside.parts.items c.self.inside.picks.items c.self.inside.made.now c.args.self.now c.args.place c.index.result.now c.self.view_is within c.index.ensures
