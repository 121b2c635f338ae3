use Rattle.std.proofs.Common.{◌≡◌, take}
use Rattle.vtl_index.specs.Groups.{firsts}
use Rattle.vtl_rules.proofs.items.first_rows.Given as goal

abbrev pub invariant-loop-group : goal.invariant-loop-group
invariant-loop-group l = l.first_rows.items ≡ take l.group (firsts l.groups)
