use Rattle.std.proofs.Common.{◌≡◌, not, take}
use Rattle.std.specs.List.{filter}
use Rattle.vtl_tree.specs.Shown.{shown}
use Rattle.vtl_timing.specs.Times.{is_time}
use Rattle.times_to_sql.proofs.columns.other_identifiers.Given as goal

abbrev pub invariant-loop-identifier : goal.invariant-loop-identifier
invariant-loop-identifier l = shown l.others.items ≡ filter (λ x. not (is_time x)) (shown (take l.identifier-index l.identifier-items))
