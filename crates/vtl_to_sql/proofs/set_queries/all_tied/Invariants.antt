use Rattle.std.proofs.Common.{◌≡◌, map, take}
use Rattle.vtl_tree.specs.Shown.{shown}
use Rattle.vtl_to_sql.specs.Sets.{tied}
use Rattle.vtl_to_sql.proofs.set_queries.all_tied.Given as goal

abbrev pub invariant-loop-identifier : goal.invariant-loop-identifier
invariant-loop-identifier l = l.equalities.items ≡ map tied (shown (take l.identifier-index l.identifiers))
