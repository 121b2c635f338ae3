use Rattle.std.proofs.Common.{◌≡◌, ◌++◌, take, drop}
use Rattle.sql_check_parts.specs.Queries.{beside}
use Rattle.sql_check_queries.proofs.unions.share_kinds.Given as goal

abbrev pub invariant-loop-i : goal.invariant-loop-i
invariant-loop-i l = take l.i l.shared ++ beside (drop l.i l.shared) (drop l.i l.kinds) ≡ beside l.initial.shared l.kinds
