use Rattle.std.proofs.Common.{◌≡◌, ◌++◌, take}
use Rattle.std.specs.Prelude.{map}
use Rattle.vtl_tree.specs.ClauseShapes.{code_measure}
use Rattle.check_shapes.proofs.pivots.push_code_measures.Given as goal

abbrev pub invariant-loop-text : goal.invariant-loop-text
invariant-loop-text l = l.out.items ≡ l.fn.out.items ++ map (code_measure l.kind) (take l.text-index l.texts)
