use Rattle.std.proofs.Common.{◌≡◌, ◌+◌, drop}
use Rattle.std.specs.List.{position_or_len}
use Rattle.vtl_tree.specs.Shown.{shown}
use Rattle.vtl_timing.specs.Times.{is_time}
use Rattle.vtl_times.proofs.places.first_time.Given as goal

abbrev pub invariant-loop-i : goal.invariant-loop-i
invariant-loop-i l = position_or_len is_time (shown l.components) ≡ l.i + position_or_len is_time (shown (drop l.i l.components))
