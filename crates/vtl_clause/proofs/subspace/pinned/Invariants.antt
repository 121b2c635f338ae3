use Rattle.std.proofs.Common.{◌≡◌, map, take}
use Rattle.vtl_tree.specs.Structure.{columns_of}
use Rattle.vtl_clause.specs.Pins.{wanted_by, wanted_in}
use Rattle.vtl_clause.proofs.subspace.pinned.Given as goal

abbrev pub invariant-loop-item : goal.invariant-loop-item
invariant-loop-item l = map wanted_by l.pins.items ≡ map (wanted_in (columns_of l.a)) (take l.item-index l.items)
