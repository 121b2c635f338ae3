use Rattle.std.proofs.Common.{◌≡◌, drop}
use Rattle.vtl_lists.specs.Each.{each_some, onto}
use Rattle.vtl_tree.specs.Shown.{shown}
use Rattle.vtl_csv.specs.InputFile.{place_in}
use Rattle.vtl_csv.proofs.header.places.Given as goal

abbrev pub invariant-loop-i : goal.invariant-loop-i
invariant-loop-i l = onto l.places.items (each_some (place_in (shown l.columns)) (drop l.i (shown l.components))) ≡ each_some (place_in (shown l.columns)) (shown l.components)
