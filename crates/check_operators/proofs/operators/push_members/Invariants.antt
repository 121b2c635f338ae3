use Rattle.std.proofs.Common.{◌≡◌, ◌++◌}
use Rattle.std.specs.Prelude.{map}
use Rattle.std.specs.Vec.Iter.{into_iter_items}
use Rattle.vtl_tree.specs.CompExp.{const}
use Rattle.check_operators.specs.Typed.{typed_trees, value}
use Rattle.check_operators.proofs.operators.push_members.Given as goal

abbrev pub invariant-loop-cell : goal.invariant-loop-cell
invariant-loop-cell l = typed_trees l.operands ++ map (λ c. value (const c)) (into_iter_items l.cell-iterator) ≡ typed_trees l.fn.operands ++ map (λ c. value (const c)) l.fn.cells.items
