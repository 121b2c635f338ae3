use Rattle.std.proofs.Common.{◌≡◌, map, take}
use Rattle.sql_check_parts.specs.Scopes.{or_null}
use Rattle.sql_exec.proofs.columns.known_kinds.Given as goal

abbrev pub invariant-loop-kind : goal.invariant-loop-kind
invariant-loop-kind l = l.kinds.items ≡ map or_null (take l.kind-index l.shared)
