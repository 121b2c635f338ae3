use Rattle.std.proofs.Common.{◌+◌, ◌++◌, None, replicate, sym, ap, ◌∙◌, arith}
use Rattle.vtl_pages.proofs.Lays.{items_seen, roomier}
use Rattle.vtl_pages.proofs.Runs.{still_runs}
use Rattle.vtl_pages.proofs.Spots.{first_seen, places_seen, step_seen}
use Rattle.vtl_pages.proofs.pages.Pages.grow.Goals as goal

pub invariant_of-self-2 : goal.invariant_of-self-2
invariant_of-self-2 g c =
    let p = c.self.inside in let t = c.grow.new.self in let e = c.in_ok-grow.ensures.ok in let inv = c.self.invariant in let few = c.if-self-more.false in let old = inv.1.few in
    let is = places_seen e ∙ ap (λ k. p.store.places ++ replicate k None) (sym c.next_size-more.ensures) in
    ((roomier p.store.places p.len p.room inv.0 t.places c.next_size-more.result is).0, still_runs p.store p.room p.width p.front p.runs p.shift inv.1 t (p.room + c.next_size-more.result) (first_seen e) (step_seen e) (omega arith))

pub returns-clause-items : goal.returns-clause-items
returns-clause-items g c =
    let p = c.self.inside in let is = places_seen c.in_ok-grow.ensures.ok ∙ ap (λ k. p.store.places ++ replicate k None) (sym c.next_size-more.ensures) in
    (roomier p.store.places p.len p.room c.self.invariant.0 c.grow.new.self.places c.next_size-more.result is).1 ∙ items_seen c.self.view_is
