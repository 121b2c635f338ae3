use Rattle.std.proofs.Common.{◌≡◌, [], drop}
use Rattle.vtl_tree.specs.Shown.{shown}
use Rattle.vtl_sources.specs.Sources.{each_source, with_all}
use Rattle.vtl_sources.specs.Table.{with_measures}
use Rattle.vtl_lineage.specs.Numbers.{merged}
use Rattle.vtl_lineage.proofs.parts.with_measures.Given as goal

abbrev pub invariant-loop-column : goal.invariant-loop-column
invariant-loop-column l = with_all merged [] l.set (each_source merged [] l.a (shown (drop l.column-index l.column-items))) ≡ with_measures merged [] l.a
