use Rattle.std.proofs.Common.{◌≡◌, ◌+◌, ◌-◌, ◌<◌, ◌++◌, ◌∷◌, [], length, take, sym, ap, ◌∙◌, arith}
use Rattle.vtl_pages.specs.Places.{values}
use Rattle.vtl_pages.proofs.Lays.{item_is, item_there, items_seen, last_split, popped}
use Rattle.vtl_pages.proofs.Runs.{still_runs}
use Rattle.vtl_pages.proofs.Spots.{first_seen, places_seen, step_seen}
use Rattle.vtl_pages.proofs.pages.Pages.pop.Goals as goal

pub take_at-requires : goal.take_at-requires
take_at-requires g c =
    let p = c.self.inside in let count = c.self.invariant.0.count in let some = c.if-self-eq0.false in
    item_there p.store.places p.len p.room c.self.invariant.0 (p.len - 1) (omega arith)

pub invariant_of-self : goal.invariant_of-self
invariant_of-self g c =
    let p = c.self.inside in let inv = c.self.invariant in let count = inv.0.count in let some = c.if-self-eq0.false in let xs = values p.store.places in let m = p.len - 1 in
    let t = c.take_at.new.self in let e = c.take_at.ensures.places in let low : m < length xs = omega arith in let one : p.len ≡ m + 1 = omega arith in
    let is = last_split xs m c.take_at.result (sym count ∙ one) (item_is p.store.places p.len p.room inv.0 m c.take_at.result low c.take_at.ensures.value) in
    ((popped p.store.places p.len p.room inv.0 t.places (take m xs) c.take_at.result m is one (places_seen e)).0, still_runs p.store p.room p.width p.front p.runs p.shift inv.1 t p.room (first_seen e) (step_seen e) inv.1.few)

pub returns-clause-items : goal.returns-clause-items
returns-clause-items g c =
    let p = c.self.inside in let inv = c.self.invariant in let count = inv.0.count in let some = c.if-self-eq0.false in let xs = values p.store.places in let m = p.len - 1 in
    let t = c.take_at.new.self in let e = c.take_at.ensures.places in let low : m < length xs = omega arith in let one : p.len ≡ m + 1 = omega arith in
    let is = last_split xs m c.take_at.result (sym count ∙ one) (item_is p.store.places p.len p.room inv.0 m c.take_at.result low c.take_at.ensures.value) in
    sym (items_seen c.self.view_is) ∙ is ∙ ap (λ l. l ++ c.take_at.result ∷ []) (sym (popped p.store.places p.len p.room inv.0 t.places (take m xs) c.take_at.result m is one (places_seen e)).1)
