use Rattle.std.proofs.Common.{◌++◌, ◌∷◌, [], ap, ◌∙◌, arith}
use Rattle.vtl_pages.proofs.Lays.{free_there, items_seen, pushed, room_is, same_paged, spare_seen, width_seen}
use Rattle.vtl_pages.proofs.Runs.{still_runs}
use Rattle.vtl_pages.proofs.Spots.{first_seen, places_seen, step_seen}
use Rattle.vtl_pages.proofs.pages.Pages.push.Goals as goal

pub put_at-requires-clause-there : goal.put_at-requires-clause-there
put_at-requires-clause-there g c =
    let p = c.self.inside in let left = spare_seen c.self.view_is in let some = c.requires in omega (arith, room_is p.store.places p.len p.room c.self.invariant.0)

pub put_at-requires-clause-empty : goal.put_at-requires-clause-empty
put_at-requires-clause-empty g c = let p = c.self.inside in free_there p.store.places p.len p.room c.self.invariant.0 p.len (omega arith)

pub invariant_of-self : goal.invariant_of-self
invariant_of-self g c =
    let p = c.self.inside in let t = c.put_at.new.self in let e = c.put_at.ensures in let left = spare_seen c.self.view_is in let some = c.requires in let inv = c.self.invariant in
    ((pushed p.store.places p.len p.room inv.0 t.places c.args.value (omega arith) (places_seen e)).0, still_runs p.store p.room p.width p.front p.runs p.shift inv.1 t p.room (first_seen e) (step_seen e) inv.1.few)

pub returns : goal.returns
returns g c =
    let p = c.self.inside in let left = spare_seen c.self.view_is in let some = c.requires in
    same_paged ((pushed p.store.places p.len p.room c.self.invariant.0 c.put_at.new.self.places c.args.value (omega arith) (places_seen c.put_at.ensures)).1 ∙ ap (λ l. l ++ c.args.value ∷ []) (items_seen c.self.view_is))
    (omega arith) (width_seen c.self.view_is)
