use Rattle.std.proofs.Common.{◌≡◌, drop}
use Rattle.std.specs.List.{list_all}
use Rattle.vtl_tree.specs.Structures.{is_filled}
use Rattle.vtl_tree.proofs.declarable.are_filled.Given as goal

abbrev pub invariant-loop-text : goal.invariant-loop-text
invariant-loop-text l = list_all is_filled (drop l.text-index l.texts) ≡ list_all is_filled l.texts
