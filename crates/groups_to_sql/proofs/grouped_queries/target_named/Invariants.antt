use Rattle.std.proofs.Common.{◌≡◌, drop}
use Rattle.vtl_meaning.specs.Aggregates.{target_named}
use Rattle.groups_to_sql.proofs.grouped_queries.target_named.Given as goal

abbrev pub invariant-loop-target : goal.invariant-loop-target
invariant-loop-target l = target_named (drop l.target-index l.targets) l.name ≡ target_named l.targets l.name
