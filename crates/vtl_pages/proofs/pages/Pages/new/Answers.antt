use Rattle.std.proofs.Common.{arith}
use Rattle.vtl_pages.proofs.Lays.{none_laid}
use Rattle.vtl_pages.proofs.Runs.{some_of}
use Rattle.vtl_pages.proofs.Spots.{first_seen, places_seen, step_seen}
use Rattle.vtl_pages.proofs.pages.Pages.new.Goals as goal

pub invariant_of-result : goal.invariant_of-result
invariant_of-result g c =
    let sizes = c.sizes_for-sizes.ensures in let some = sizes.front in
    ((none_laid c.new.result.places (places_seen c.new.ensures)).0, record { wide = c.requires; some = some_of c.sizes_for-sizes.result.front c.args.width some; first = first_seen c.new.ensures; step = step_seen c.new.ensures; bits = sizes.bits; power = sizes.power; few = omega arith })
