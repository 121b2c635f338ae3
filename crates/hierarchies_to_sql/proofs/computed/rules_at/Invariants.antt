use Rattle.std.proofs.Common.{◌≡◌, take}
use Rattle.std.specs.List.{filter_map}
use Rattle.std.specs.Prelude.{slice_get}
use Rattle.vtl_tree.specs.Shown.{shown}
use Rattle.hierarchies_to_sql.proofs.computed.rules_at.Given as goal

abbrev pub invariant-loop-place : goal.invariant-loop-place
invariant-loop-place l = shown l.found.items ≡ filter_map (slice_get l.rules) (take l.place-index l.order)
