use Rattle.std.proofs.Common.{◌≡◌, [], drop}
use Rattle.vtl_sources.specs.Sources.{with_names}
use Rattle.vtl_lineage.specs.Numbers.{merged}
use Rattle.vtl_lineage.proofs.parts.with_names.Given as goal

abbrev pub invariant-loop-name : goal.invariant-loop-name
invariant-loop-name l = with_names merged [] l.a l.set (drop l.name-index l.names) ≡ with_names merged [] l.a l.fn.before l.names
