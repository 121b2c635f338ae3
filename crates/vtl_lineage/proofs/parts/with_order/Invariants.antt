use Rattle.std.proofs.Common.{◌≡◌, [], drop, map}
use Rattle.vtl_sources.specs.Sources.{with_names}
use Rattle.vtl_lineage.specs.Numbers.{merged}
use Rattle.vtl_lineage.proofs.parts.with_order.Given as goal

abbrev pub invariant-loop-key : goal.invariant-loop-key
invariant-loop-key l = with_names merged [] l.a l.set (map (λ key. key.component) (drop l.key-index l.order)) ≡ with_names merged [] l.a l.fn.before (map (λ key. key.component) l.order)
