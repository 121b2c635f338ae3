use Rattle.std.proofs.Common.{◌≡◌, ◌+◌, drop}
use Rattle.std.specs.List.{position_or_len}
use Rattle.vtl_tree.specs.Structure.{same_name}
use Rattle.vtl_group.proofs.condition.place_among.Given as goal

abbrev pub invariant-loop-i : goal.invariant-loop-i
invariant-loop-i l = position_or_len (same_name l.name) l.names ≡ l.i + position_or_len (same_name l.name) (drop l.i l.names)
