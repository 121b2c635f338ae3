use Rattle.std.proofs.Common.{◌≡◌, ◌++◌, map, take}
use Rattle.vtl_rows.specs.Gathered.{picked}
use Rattle.vtl_rows.specs.Tables.{listed}
use Rattle.vtl_rows.proofs.gather.append_picked.Given as goal

abbrev pub invariant-loop-pick : goal.invariant-loop-pick
invariant-loop-pick l = l.cells.items ≡ l.initial.cells.items ++ picked (map (λ t. listed t.now) l.parts) (take l.pick-index l.picks) l.tuple
