use Rattle.std.proofs.Common.{◌≡◌, map, take}
use Rattle.sql_check_parts.specs.Exists.{inner_of}
use Rattle.sql_eval.specs.Resolves.{place_at, tie_of}
use Rattle.sql_eval.proofs.existence.ties.Given as goal

abbrev pub invariant-loop-equality : goal.invariant-loop-equality
invariant-loop-equality g l = l.ties.items ≡ map (tie_of (place_at (g.N.Names.scope l.names) l.level) (inner_of (g.N.Names.tables l.names) l.source)) (take l.equality-index l.equalities)
