use Rattle.std.proofs.Common.{[], subst, sym}
use Rattle.check_faults.specs.InTurn.{GaveEach}
use Rattle.check_faults.proofs.InTurn as turns
use Rattle.check_faults.proofs.laws.in_turn_is_place_by_place.Goals as goal

pub returns-clause-gives : goal.returns-clause-gives
returns-clause-gives g c = λ step xs ys e. let h = turns.gives step [] xs ys e in subst (GaveEach step xs) (sym h.1) h.2

pub returns-clause-given : goal.returns-clause-given
returns-clause-given g c = λ step xs ys h. turns.given step [] xs ys h

pub returns-clause-fails : goal.returns-clause-fails
returns-clause-fails g c = λ step xs e h. turns.fails step [] xs e h

pub returns-clause-failed : goal.returns-clause-failed
returns-clause-failed g c = λ step xs e h. turns.failed step [] xs e h
