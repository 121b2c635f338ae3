use Rattle.std.proofs.Common.{◌≡◌, [], length}
use Rattle.vtl_pages.proofs.Narrows.{IsNarrowed}
use Rattle.vtl_pages.proofs.pages.Pages.narrowed.Given as goal

-- the runs in front are narrowed
abbrev pub invariant-loop-run : goal.invariant-loop-run
invariant-loop-run g l = record {
  way : IsNarrowed l.places l.width l.fn.self.items l.items l.narrow.items l._run;
  width : l.narrow.width ≡ length l.places;
  empty : l.run.items ≡ [];
}
