use Rattle.std.proofs.Common.{◌≡◌, drop}
use Rattle.std.specs.List.{list_all}
use Rattle.vtl_tree.specs.Shown.{shown}
use Rattle.check_shapes.specs.Pairs.{has_one_number}
use Rattle.check_shapes.proofs.pairs.have_one_number.Given as goal

abbrev pub invariant-loop-structure : goal.invariant-loop-structure
invariant-loop-structure l = list_all has_one_number (shown (drop l.structure-index l.structures)) ≡ list_all has_one_number (shown l.structures)
