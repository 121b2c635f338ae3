use Rattle.std.proofs.Common.{◌≡◌, ◌++◌, ◌∷◌, [], drop, map}
use Rattle.sql_from.specs.Joins.{in_turn, told}
use Rattle.sql_from.specs.Tried.{value_of}
use Rattle.sql_from.proofs.conditions.ConditionsCondition.at.Given as goal

abbrev pub invariant-loop-part : goal.invariant-loop-part
invariant-loop-part l = told (in_turn (map value_of (drop l.part-index l.self.parts.items)) (l.front ++ l.last ∷ [])) ≡ told (in_turn (map value_of l.self.parts.items) (l.front ++ l.last ∷ []))
