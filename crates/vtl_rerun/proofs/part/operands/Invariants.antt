use Rattle.std.proofs.Common.{◌≡◌, map, take}
use Rattle.vtl_rerun.specs.Operands.{operand_of}
use Rattle.vtl_rerun.proofs.part.operands.Given as goal

abbrev pub invariant-loop-name : goal.invariant-loop-name
invariant-loop-name l = l.operands.items ≡ map (operand_of l.places) (take l.name-index l.name-items)
