use Rattle.std.proofs.Common.{◌≡◌, ◌++◌, None, length, replicate, sym, ap, ◌∙◌, subst, arith}
use Rattle.vtl_pages.specs.Laid.{IsLaid}
use Rattle.vtl_pages.specs.Places.{values}
use Rattle.vtl_pages.proofs.Lays.{all_empty_laid, all_pushed, free_there, items_seen, room_is, spare_seen}
use Rattle.vtl_pages.proofs.Runs.{still_runs}
use Rattle.vtl_pages.proofs.Spots.{first_seen, places_seen, step_seen}
use Rattle.vtl_pages.proofs.pages.Pages.append.Goals as goal

pub move_all-requires-clause-there : goal.move_all-requires-clause-there
move_all-requires-clause-there g c =
    let p = c.self.inside in let left = spare_seen c.self.view_is in let spare = c.in_ok-reserve.ensures.ok in let most = c.self.invariant.0.within in
    omega (arith, room_is p.store.places p.len p.room c.self.invariant.0)

pub move_all-requires-clause-free : goal.move_all-requires-clause-free
move_all-requires-clause-free g c j from below = let p = c.self.inside in free_there p.store.places p.len p.room c.self.invariant.0 j from

pub move_all-requires-clause-laid : goal.move_all-requires-clause-laid
move_all-requires-clause-laid g c =
    let q = c.other.inside in let inv = c.other.invariant.0 in
    let count : q.len ≡ c.len-n.result = inv.count ∙ ap length (items_seen c.other.view_is) ∙ sym c.len-n.ensures.items in
    subst (λ n. IsLaid q.store.places n (length q.store.places)) count (subst (λ r. IsLaid q.store.places q.len r) (sym (room_is q.store.places q.len q.room inv)) inv)

pub invariant_of-self : goal.invariant_of-self
invariant_of-self g c =
    let p = c.self.inside in let q = c.other.inside in let inv = c.self.invariant in let t = c.move_all.new.self in let e = c.move_all.ensures.places in
    let left = spare_seen c.self.view_is in let spare = c.in_ok-reserve.ensures.ok in let most = inv.0.within in
    let count : c.len-n.result ≡ length (values q.store.places) = c.len-n.ensures.items ∙ sym (ap length (items_seen c.other.view_is)) in
    ((all_pushed p.store.places p.len p.room inv.0 t.places (values q.store.places) c.len-n.result count (omega arith) (places_seen e)).0, still_runs p.store p.room p.width p.front p.runs p.shift inv.1 t p.room (first_seen e) (step_seen e) inv.1.few)

pub invariant_of-other : goal.invariant_of-other
invariant_of-other g c =
    let q = c.other.inside in let inv = c.other.invariant in let t = c.move_all.new.other in let e = c.move_all.ensures.other in
    let emptied = places_seen e ∙ ap (λ n. replicate n None) (room_is q.store.places q.len q.room inv.0) in
    ((all_empty_laid t.places q.room emptied).0, still_runs q.store q.room q.width q.front q.runs q.shift inv.1 t q.room (first_seen e) (step_seen e) inv.1.few)

pub returns-clause-ok : goal.returns-clause-ok
returns-clause-ok g c =
    let p = c.self.inside in let q = c.other.inside in let inv = c.self.invariant in let t = c.move_all.new.self in let e = c.move_all.ensures in
    let left = spare_seen c.self.view_is in let spare = c.in_ok-reserve.ensures.ok in let most = inv.0.within in
    let count : c.len-n.result ≡ length (values q.store.places) = c.len-n.ensures.items ∙ sym (ap length (items_seen c.other.view_is)) in
    let emptied = places_seen e.other ∙ ap (λ n. replicate n None) (room_is q.store.places q.len q.room c.other.invariant.0) in
    let same = items_seen c.self.view_is ∙ c.in_ok-reserve.ensures.items in
    ((all_pushed p.store.places p.len p.room inv.0 t.places (values q.store.places) c.len-n.result count (omega arith) (places_seen e.places)).1 ∙ (λ i. same i ++ items_seen c.other.view_is i), (all_empty_laid c.move_all.new.other.places q.room emptied).1)
