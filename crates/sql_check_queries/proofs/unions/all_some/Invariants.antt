use Rattle.std.proofs.Common.{◌≡◌, Some, take, map}
use Rattle.sql_check_queries.proofs.unions.all_some.Given as goal

abbrev pub invariant-loop-kind : goal.invariant-loop-kind
invariant-loop-kind l = l.shared.items ≡ map Some (take l.kind-index l.kinds)
