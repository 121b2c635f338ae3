use Rattle.std.proofs.Common.{◌≡◌, ◌++◌, map, drop}
use Rattle.vtl_tree.specs.Shown.{shown}
use Rattle.joins_to_sql.specs.JoinItems.{aliased_around, aliased_of}
use Rattle.joins_to_sql.proofs.join_operands.with_aliases.Given as goal

abbrev pub invariant-loop-i : goal.invariant-loop-i
invariant-loop-i l = map aliased_of l.operands.items ++ aliased_around l.place l.i (shown (drop l.i l.structures)) (drop l.i l.tables) ≡ aliased_around l.place 0 (shown l.structures) l.tables
