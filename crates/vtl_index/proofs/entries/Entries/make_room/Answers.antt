use Rattle.std.proofs.Common.{length}
use Rattle.vtl_index.proofs.Adding.{found_along, same_places}
use Rattle.vtl_index.proofs.entries.Entries.make_room.Goals as goal

pub returns-in_ok-self-clause-places : goal.returns-in_ok-self-clause-places
returns-in_ok-self-clause-places c =
    λ i k. same_places c.args.self.now.cells.items c.args.self.now.width (length c.args.self.now.rows.items) c.args.self.now.places.buckets.items c.in_ok-self.field-0.buckets.items c.args.self.now.places.others c.in_ok-self.field-0.others c.requires.found
    (found_along c.args.self.now.cells.items c.keys.result.cells.now c.args.self.now.width c.keys.result.width (length c.args.self.now.rows.items) c.keys.result.count c.in_ok-self.field-0.buckets.items c.in_ok-self.field-0.others
    c.keys.ensures.cells c.keys.ensures.width c.keys.ensures.count c.in_ok-self.ensures.found) k i
