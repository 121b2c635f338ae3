use Rattle.std.proofs.Common.{length}
use Rattle.vtl_rerun.proofs.Making.{AreMade}
use Rattle.vtl_rerun.proofs.part.parts_of.Given as goal

abbrev pub invariant-loop-i : goal.invariant-loop-i
invariant-loop-i l = AreMade l.script l.i (length l.parts.items) l.places l.parts.items
