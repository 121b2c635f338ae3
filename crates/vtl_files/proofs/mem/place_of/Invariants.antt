use Rattle.std.proofs.Common.{◌≡◌, drop}
use Rattle.vtl_files.specs.Outside.{bytes_at}
use Rattle.vtl_files.proofs.mem.place_of.Given as goal

abbrev pub invariant-loop-place : goal.invariant-loop-place
invariant-loop-place l = bytes_at l.name l.files ≡ bytes_at l.name (drop l.place l.files)
