use Rattle.std.proofs.Common.{◌<◌, length, sym, ap, ◌∙◌, subst}
use Rattle.std.specs.List.{swap}
use Rattle.vtl_pages.specs.Places.{IsFilled}
use Rattle.vtl_pages.proofs.Lays.{item_there, items_seen, same_paged, spare_seen, width_seen}
use Rattle.vtl_pages.proofs.Moved.{one_swapped}
use Rattle.vtl_pages.proofs.Runs.{still_runs}
use Rattle.vtl_pages.proofs.Spots.{first_seen, places_seen, step_seen}
use Rattle.vtl_pages.proofs.pages.Pages.swap.Goals as goal

pub swap-requires-clause-a_filled : goal.swap-requires-clause-a_filled
swap-requires-clause-a_filled g c =
    let p = c.self.inside in
    subst (IsFilled p.store.places) (sym c.find-one.ensures.spot) (item_there p.store.places p.len p.room c.self.invariant.0 c.args.i (subst (λ l. c.args.i < length l) (sym (items_seen c.self.view_is)) c.requires.i_there))

pub swap-requires-clause-b_filled : goal.swap-requires-clause-b_filled
swap-requires-clause-b_filled g c =
    let p = c.self.inside in
    subst (IsFilled p.store.places) (sym c.find-other.ensures.spot) (item_there p.store.places p.len p.room c.self.invariant.0 c.args.j (subst (λ l. c.args.j < length l) (sym (items_seen c.self.view_is)) c.requires.j_there))

pub invariant_of-self : goal.invariant_of-self
invariant_of-self g c =
    let p = c.self.inside in let inv = c.self.invariant in let items = items_seen c.self.view_is in let t = c.swap.new.self in let e = c.swap.ensures in
    let is = places_seen e ∙ (λ k. swap p.store.places (c.find-one.ensures.spot k) (c.find-other.ensures.spot k)) in
    ((one_swapped p.store.places p.len p.room inv.0 t.places c.args.i c.args.j (subst (λ l. c.args.i < length l) (sym items) c.requires.i_there) (subst (λ l. c.args.j < length l) (sym items) c.requires.j_there) is).0, still_runs p.store p.room p.width p.front p.runs p.shift inv.1 t p.room (first_seen e) (step_seen e) inv.1.few)

pub returns : goal.returns
returns g c =
    let p = c.self.inside in let inv = c.self.invariant in let items = items_seen c.self.view_is in let t = c.swap.new.self in let e = c.swap.ensures in
    let is = places_seen e ∙ (λ k. swap p.store.places (c.find-one.ensures.spot k) (c.find-other.ensures.spot k)) in
    same_paged ((one_swapped p.store.places p.len p.room inv.0 t.places c.args.i c.args.j (subst (λ l. c.args.i < length l) (sym items) c.requires.i_there) (subst (λ l. c.args.j < length l) (sym items) c.requires.j_there) is).1
    ∙ ap (λ l. swap l c.args.i c.args.j) items) (spare_seen c.self.view_is) (width_seen c.self.view_is)
