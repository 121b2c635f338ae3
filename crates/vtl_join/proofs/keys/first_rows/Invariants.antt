use Rattle.std.proofs.Common.{◌≡◌, take}
use Rattle.vtl_index.specs.Groups.{firsts}
use Rattle.vtl_join.proofs.keys.first_rows.Given as goal

abbrev pub invariant-loop-group : goal.invariant-loop-group
invariant-loop-group l = l.rows.items ≡ take l.group (firsts l.groups)
