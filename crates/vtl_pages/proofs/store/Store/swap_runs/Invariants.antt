use Rattle.std.proofs.Common.{◌≡◌}
use Rattle.vtl_pages.specs.Ordered.{swap_all}
use Rattle.vtl_pages.specs.Stored.{spot, stored}
use Rattle.vtl_pages.proofs.store.Store.swap_runs.Given as goal

abbrev pub invariant-loop-k : goal.invariant-loop-k
invariant-loop-k g l =
    let s = l.fn.self in
    l.self ≡ stored (swap_all s.places (spot s.first s.step l.a.0 l.a.1) (spot s.first s.step l.b.0 l.b.1) l.k) s.first s.step
