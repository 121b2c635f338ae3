use Rattle.std.proofs.Common.{◌≡◌, ◌∷◌, map, take}
use Rattle.vtl_rows.specs.Tables.{listed}
use Rattle.vtl_join.specs.Joining.{sets_of}
use Rattle.vtl_join.specs.Picks.{table_of}
use Rattle.vtl_join.proofs.gathering.parts_behind.Given as goal

abbrev pub invariant-loop-operand : goal.invariant-loop-operand
invariant-loop-operand l = map (λ t. listed t.now) l.parts.items ≡ listed l.lead ∷ map table_of (sets_of (take l.operand-index l.operands))
