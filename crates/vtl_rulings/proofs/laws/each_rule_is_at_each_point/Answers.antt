use Rattle.vtl_rulings.proofs.RuledLooks.{datapoint_look, datapoint_only}
use Rattle.vtl_rulings.proofs.laws.each_rule_is_at_each_point.Goals as goal

pub returns-clause-at : goal.returns-clause-at
returns-clause-at c = λ p o rules a s made k id i h e. datapoint_look p o rules a.structure s a.points i h made k id e

pub returns-clause-only : goal.returns-clause-only
returns-clause-only c = λ p o rules a s made j q i h e found. datapoint_only p o rules a.structure s a.points i h made j q e found
