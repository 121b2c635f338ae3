use Rattle.std.proofs.Common.{◌≡◌, filter, map, take}
use Rattle.sql_engine.proofs.structures.not_null_of.Given as goal

abbrev pub invariant-loop-column : goal.invariant-loop-column
invariant-loop-column l = l.names.items ≡ map (λ x. x.name) (filter (λ x. x.not_null) (take l.column-index l.column-items))
