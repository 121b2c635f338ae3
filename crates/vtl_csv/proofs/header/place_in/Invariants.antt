use Rattle.std.proofs.Common.{◌≡◌, drop}
use Rattle.vtl_tree.specs.Shown.{shown}
use Rattle.vtl_csv.specs.InputFile.{place_from, place_in}
use Rattle.vtl_csv.proofs.header.place_in.Given as goal

abbrev pub invariant-loop-i : goal.invariant-loop-i
invariant-loop-i l = place_from l.i (drop l.i (shown l.columns)) l.component ≡ place_in (shown l.columns) l.component
