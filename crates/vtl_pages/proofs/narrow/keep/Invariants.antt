use Rattle.vtl_pages.proofs.Narrows.{IsKept}
use Rattle.vtl_pages.proofs.narrow.keep.Given as goal

-- what stands at the places in front is kept
abbrev pub invariant-loop-place : goal.invariant-loop-place
invariant-loop-place g l = IsKept l.places l.width l.fn.items l.items l.kept.items l.place l.next
