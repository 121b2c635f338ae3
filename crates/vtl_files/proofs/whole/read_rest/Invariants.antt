use Rattle.std.proofs.Common.{◌≡◌, ◌≤◌, ◌<◌, ◌+◌, ◌-◌, ◌++◌, length, vec_len}
use Rattle.std.specs.Option.{option_map}
use Rattle.vtl_files.proofs.whole.read_rest.Given as goal

abbrev pub invariant-loop-f : goal.invariant-loop-f
invariant-loop-f g l = record {
  held : g.F.Files.held l.f ≡ g.F.Files.held l.fn.f;
  written : g.F.Files.written l.f ≡ g.F.Files.written l.fn.f;
  creating : g.F.Files.creating l.f ≡ g.F.Files.creating l.fn.f;
  misuses : g.F.Files.misuses l.f ≡ g.F.Files.misuses l.fn.f;
  place : g.F.Files.place l.f ≡ g.F.Files.place l.fn.f;
  mark : g.F.Files.mark l.f ≡ g.F.Files.mark l.fn.f;
  absences : g.F.Files.absences l.f ≡ g.F.Files.absences l.fn.f;
  faults : g.F.Files.faults l.fn.f ≤ g.F.Files.faults l.f;
  room : 0 < length l.room;
  so_far : g.F.Files.left l.fn.f ≡ option_map (λ rest. l.bytes.items ++ rest) (g.F.Files.left l.f);
}

abbrev pub decreases-loop-f : goal.decreases-loop-f
decreases-loop-f g l = l.limit + 1 - vec_len l.bytes
