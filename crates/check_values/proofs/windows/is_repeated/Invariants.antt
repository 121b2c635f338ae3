use Rattle.std.proofs.Common.{◌≡◌, drop}
use Rattle.std.specs.List.{list_any}
use Rattle.vtl_tree.specs.Structure.{same_name}
use Rattle.check_values.proofs.windows.is_repeated.Given as goal

abbrev pub invariant-loop-other : goal.invariant-loop-other
invariant-loop-other l = list_any (same_name l.name) (drop l.other-index l.names) ≡ list_any (same_name l.name) l.names
