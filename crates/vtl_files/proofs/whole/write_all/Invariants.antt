use Rattle.std.proofs.Common.{◌≡◌, ◌≤◌, true, length}
use Rattle.vtl_files.specs.Outside.{append_last}
use Rattle.vtl_files.specs.Whole.{AddsUpTo}
use Rattle.vtl_files.proofs.whole.write_all.Given as goal

abbrev pub invariant-loop-rest : goal.invariant-loop-rest
invariant-loop-rest g l = record {
  held : g.F.Files.held l.f ≡ g.F.Files.held l.fn.f;
  creating : g.F.Files.creating l.f ≡ g.F.Files.creating l.fn.f;
  place : g.F.Files.place l.f ≡ g.F.Files.place l.fn.f;
  mark : g.F.Files.mark l.f ≡ g.F.Files.mark l.fn.f;
  opened : g.F.Files.opened l.f ≡ g.F.Files.opened l.fn.f;
  left : g.F.Files.left l.f ≡ g.F.Files.left l.fn.f;
  absences : g.F.Files.absences l.f ≡ g.F.Files.absences l.fn.f;
  misuses : g.F.Files.misuses l.fn.f ≤ g.F.Files.misuses l.f;
  used : g.F.Files.creating l.fn.f ≡ true → g.F.Files.misuses l.f ≡ g.F.Files.misuses l.fn.f;
  faults : g.F.Files.faults l.fn.f ≤ g.F.Files.faults l.f;
  written : AddsUpTo append_last (g.F.Files.written l.fn.f) (g.F.Files.written l.f) l.bytes l.rest;
}

abbrev pub decreases-loop-rest : goal.decreases-loop-rest
decreases-loop-rest g l = length l.rest
