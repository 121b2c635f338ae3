use Rattle.std.proofs.Common.{sym}
use Rattle.vtl_pages.proofs.Lays.{filled_to, room_is}
use Rattle.vtl_pages.proofs.pages.Pages.drop.Goals as goal

pub destroy-requires-clause-filled : goal.destroy-requires-clause-filled
destroy-requires-clause-filled g c = let p = c.self.inside in filled_to p.store.places p.len p.room c.self.invariant.0

pub destroy-requires-clause-room : goal.destroy-requires-clause-room
destroy-requires-clause-room g c = let p = c.self.inside in sym (room_is p.store.places p.len p.room c.self.invariant.0)
