use Rattle.std.proofs.Common.{◌≡◌, map, take}
use Rattle.vtl_tree.specs.Shown.{shown}
use Rattle.times_to_sql.specs.Frequencies.{time_key}
use Rattle.times_to_sql.proofs.parts_queries.time_keys.Given as goal

abbrev pub invariant-loop-time : goal.invariant-loop-time
invariant-loop-time l = l.keys.items ≡ map time_key (shown (take l.time-index l.times))
