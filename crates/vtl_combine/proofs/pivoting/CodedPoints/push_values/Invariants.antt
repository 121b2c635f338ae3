use Rattle.std.proofs.Common.{◌≡◌, ◌++◌, map, take}
use Rattle.vtl_combine.specs.Pivots.{coded}
use Rattle.vtl_combine.proofs.pivoting.CodedPoints.push_values.Given as goal

abbrev pub invariant-loop-code : goal.invariant-loop-code
invariant-loop-code g l = record {
  cells : l.cells.items ≡ l.initial.cells.items ++ map (coded l.self l.initial.key.items) (take l.code-index l.code-items);
  key : l.key.items ≡ l.initial.key.items;
}
