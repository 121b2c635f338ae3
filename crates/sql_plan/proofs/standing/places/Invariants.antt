use Rattle.std.proofs.Common.{◌∷◌, map, take}
use Rattle.sql_tree.specs.View.{join_tree}
use Rattle.sql_meaning.specs.Early.{join_alias}
use Rattle.sql_plan.specs.Reach.{ArePlaces}
use Rattle.sql_plan.proofs.standing.places.Given as goal

abbrev pub invariant-loop-join : goal.invariant-loop-join
invariant-loop-join l = ArePlaces (l.select.from.alias ∷ map join_alias (map join_tree (take l.join l.joins))) l.places
