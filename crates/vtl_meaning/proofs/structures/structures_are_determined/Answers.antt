use Rattle.vtl_meaning.proofs.Determined.{same_shape}
use Rattle.vtl_meaning.proofs.structures.structures_are_determined.Goals as goal

pub returns-clause-measures : goal.returns-clause-measures
returns-clause-measures c = λ p m a s t h k. same_shape s t _ h.shape k.shape

pub returns-clause-pair : goal.returns-clause-pair
returns-clause-pair c = λ p o a b s t h k. same_shape s t _ h.shape k.shape

pub returns-clause-choice : goal.returns-clause-choice
returns-clause-choice c = λ u a b s t h k. same_shape s t _ h.shape k.shape

pub returns-clause-calc : goal.returns-clause-calc
returns-clause-calc c = λ p items a s t h k. same_shape s t _ h.shape k.shape

pub returns-clause-sub : goal.returns-clause-sub
returns-clause-sub c = λ items a s t h k. same_shape s t _ h.shape k.shape
