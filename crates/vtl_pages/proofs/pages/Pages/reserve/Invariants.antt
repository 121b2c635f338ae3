use Rattle.std.proofs.Common.{◌≡◌, ◌-◌, ◌≤◌}
use Rattle.vtl_pages.proofs.pages.Pages.reserve.Given as goal

abbrev pub invariant-loop-self : goal.invariant-loop-self
invariant-loop-self g l = record { items : l.self.items ≡ l.fn.self.items; width : l.self.width ≡ l.fn.self.width; spare : l.fn.self.spare ≤ l.self.spare }

abbrev pub decreases-loop-self : goal.decreases-loop-self
decreases-loop-self g l = l.n - l.self.spare
