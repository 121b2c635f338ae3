use Rattle.std.proofs.Common.{◌≡◌, take, map}
use Rattle.sql_check_parts.specs.Scopes.{or_null}
use Rattle.sql_check_queries.proofs.unions.Union.kinds.Given as goal

abbrev pub invariant-loop-kind : goal.invariant-loop-kind
invariant-loop-kind l = l.kinds.items ≡ map or_null (take l.kind-index l.self.shared.items)
