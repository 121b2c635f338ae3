use Rattle.std.proofs.Common.{All, map, take}
use Rattle.vtl_rows.specs.Tables.{AllFit, listed}
use Rattle.vtl_rows.proofs.gather.parts_fit.Given as goal

abbrev pub invariant-loop-part : goal.invariant-loop-part
invariant-loop-part l = All (λ t. AllFit t.columns t.rows) (map (λ t. listed t.now) (take l.part-index l.parts))
