use Rattle.std.proofs.Common.{◌≡◌, drop}
use Rattle.std.specs.List.{list_all}
use Rattle.vtl_cell.specs.ScalarKinds.{meets}
use Rattle.vtl_cell.proofs.operator_kinds.all_meet.Given as goal

abbrev pub invariant-loop-given : goal.invariant-loop-given
invariant-loop-given l = list_all (meets l.wanted) (drop l.given-index l.kinds) ≡ list_all (meets l.wanted) l.kinds
