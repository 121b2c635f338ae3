use Rattle.std.proofs.Common.{◌≡◌, [], drop}
use Rattle.vtl_tree.specs.declared.specifications.AggItems.TheVariants as agg
use Rattle.vtl_sources.specs.Table.{source_counted}
use Rattle.vtl_lineage.specs.Numbers.{merged}
use Rattle.vtl_lineage.proofs.made.counted_target.Given as goal

abbrev pub invariant-loop-target : goal.invariant-loop-target
invariant-loop-target l = source_counted merged [] l.a (agg.Targets l.targets) l.column ≡ source_counted merged [] l.a (agg.Targets (drop l.target-index l.targets)) l.column
