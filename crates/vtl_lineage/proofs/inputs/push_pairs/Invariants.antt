use Rattle.std.proofs.Common.{◌≡◌, ◌++◌, map, take}
use Rattle.vtl_tree.specs.Shown.{shown}
use Rattle.vtl_lineage.specs.Shown.{lent_pairs}
use Rattle.vtl_lineage.proofs.inputs.push_pairs.Given as goal

abbrev pub invariant-loop-column : goal.invariant-loop-column
invariant-loop-column l = lent_pairs l.pairs.items ≡ lent_pairs l.fn.pairs.items ++ map (λ x. (l.name, x.name)) (shown (take l.column-index l.column-items))
