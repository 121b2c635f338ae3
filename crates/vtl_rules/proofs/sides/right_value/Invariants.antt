use Rattle.std.proofs.Common.{◌≡◌, drop, map, Ok}
use Rattle.vtl_rulings.specs.Modes.{counted}
use Rattle.vtl_rulings.specs.Sides.{next_values}
use Rattle.vtl_rules.specs.SideValues.{right_value}
use Rattle.vtl_rules.proofs.sides.right_value.Given as goal

abbrev pub invariant-loop-i : goal.invariant-loop-i
invariant-loop-i l = next_values l.p l.kind (Ok l.total) (drop l.i l.others) (map (counted l.mode l.kind) (drop l.i l.rest)) ≡ right_value l.p l.mode l.kind l.rule l.right
