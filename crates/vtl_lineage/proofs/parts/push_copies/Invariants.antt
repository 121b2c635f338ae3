use Rattle.std.proofs.Common.{◌≡◌, ◌++◌, take}
use Rattle.vtl_tree.specs.Shown.{shown}
use Rattle.vtl_lineage.specs.Copies.{copies}
use Rattle.vtl_lineage.proofs.parts.push_copies.Given as goal

abbrev pub invariant-loop-column : goal.invariant-loop-column
invariant-loop-column l = l.out.items ≡ l.fn.out.items ++ copies l.set (shown (take l._column-index l.columns))
