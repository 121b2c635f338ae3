use Rattle.std.proofs.Common.{◌≡◌, [], ◌++◌, take}
use Rattle.vtl_tree.specs.Shown.{shown}
use Rattle.vtl_sources.specs.Sources.{each_source}
use Rattle.vtl_lineage.specs.Numbers.{merged}
use Rattle.vtl_lineage.proofs.parts.push_named.Given as goal

abbrev pub invariant-loop-column : goal.invariant-loop-column
invariant-loop-column l = l.out.items ≡ l.fn.out.items ++ each_source merged [] l.a (shown (take l.column-index l.columns))
