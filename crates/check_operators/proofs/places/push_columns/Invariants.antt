use Rattle.std.proofs.Common.{◌≡◌, ◌++◌, take}
use Rattle.vtl_tree.specs.Shown.{shown}
use Rattle.check_operators.proofs.places.push_columns.Given as goal

abbrev pub invariant-loop-column : goal.invariant-loop-column
invariant-loop-column l = l.out.items ≡ l.fn.out.items ++ shown (take l.column-index l.columns)
