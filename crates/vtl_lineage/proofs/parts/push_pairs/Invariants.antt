use Rattle.std.proofs.Common.{◌≡◌, [], ◌++◌, map, take}
use Rattle.vtl_tree.specs.Shown.{shown}
use Rattle.vtl_sources.specs.Sources.{source_named}
use Rattle.vtl_lineage.specs.Numbers.{merged}
use Rattle.vtl_lineage.proofs.parts.push_pairs.Given as goal

abbrev pub invariant-loop-column : goal.invariant-loop-column
invariant-loop-column l = l.out.items ≡ l.fn.out.items ++ map (λ x. merged (source_named merged [] l.a x.name) (source_named merged [] l.b x.name)) (shown (take l.column-index l.columns))
