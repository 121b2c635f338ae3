use Rattle.std.proofs.Common.{arith}
use Rattle.vtl_rows.proofs.PlacesStay.{places_in_order}
use Rattle.vtl_rows.proofs.project.are_all.Goals as goal

pub returns : goal.returns
returns c = places_in_order c.args.places.now c.args.count c.if-places-count.false (λ k h. c.loop-i.invariant k (omega (arith, h)))
