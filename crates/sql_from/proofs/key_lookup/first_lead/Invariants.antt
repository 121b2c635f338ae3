use Rattle.std.proofs.Common.{◌≡◌, ℕ}
use Rattle.sql_from.specs.Conditions.{trees_of}
use Rattle.sql_from.specs.Keys.{AreLinked}
use Rattle.sql_from.proofs.key_lookup.first_lead.Given as goal

-- of conditions of which there is one, the first decides
abbrev pub invariant-loop-condition : goal.invariant-loop-condition
invariant-loop-condition l = (lead : ℕ) → AreLinked l.sources lead (trees_of l.conditions) → l.condition-index ≡ 0
