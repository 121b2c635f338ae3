use Rattle.std.proofs.Common.{◌≡◌, drop}
use Rattle.std.specs.List.{flat_map}
use Rattle.sql_meaning.specs.Early.{outer_columns}
use Rattle.sql_plan.specs.Reach.{reach}
use Rattle.sql_plan.proofs.reach.reach_outer.Given as goal

abbrev pub invariant-loop-equality : goal.invariant-loop-equality
invariant-loop-equality l = reach l.places l.last (flat_map (outer_columns l.source.alias) (drop l.equality-index l.equalities)) ≡ reach l.places l.from (flat_map (outer_columns l.source.alias) l.equalities)
