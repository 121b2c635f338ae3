use Rattle.std.proofs.Common.{take}
use Rattle.expressions_to_sql.proofs.MadeParts.{AreMade, IsMember}
use Rattle.expressions_to_sql.proofs.translation.members.Given as goal

abbrev pub invariant-loop-e : goal.invariant-loop-e
invariant-loop-e l = AreMade (IsMember l.p) (take l.e-index l.exps) l.literals.items
