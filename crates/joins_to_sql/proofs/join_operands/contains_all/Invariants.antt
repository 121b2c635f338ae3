use Rattle.std.proofs.Common.{◌≡◌, drop}
use Rattle.vtl_tree.specs.Shown.{shown}
use Rattle.vtl_meaning.specs.Joined.{contains_all}
use Rattle.joins_to_sql.proofs.join_operands.contains_all.Given as goal

abbrev pub invariant-loop-other : goal.invariant-loop-other
invariant-loop-other l = contains_all (shown (drop l.other-index l.structures)) l.structure ≡ contains_all (shown l.structures) l.structure
