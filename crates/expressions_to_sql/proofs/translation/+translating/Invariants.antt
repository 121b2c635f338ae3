use Rattle.std.proofs.Common.{take}
use Rattle.expressions_to_sql.specs.Aliases.{naming}
use Rattle.expressions_to_sql.proofs.MadeParts.{AreMade, IsOperand}
use Rattle.expressions_to_sql.proofs.translation.+translating.Given as goal

abbrev pub invariant-all-loop-e : goal.invariant-all-loop-e
invariant-all-loop-e l = AreMade (IsOperand l.p (naming l.at)) (take l.e-index l.exps) l.made.items
