use Rattle.std.proofs.Common.{◌≡◌, take}
use Rattle.std.specs.List.{filter}
use Rattle.vtl_tree.specs.Shown.{shown}
use Rattle.vtl_timing.specs.Times.{is_time}
use Rattle.times_to_sql.proofs.columns.times.Given as goal

abbrev pub invariant-loop-identifier : goal.invariant-loop-identifier
invariant-loop-identifier l = shown l.times.items ≡ filter is_time (shown (take l.identifier-index l.identifier-items))
