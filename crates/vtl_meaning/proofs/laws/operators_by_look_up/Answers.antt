use Rattle.vtl_meaning.proofs.Kept.{sub_tells}
use Rattle.vtl_meaning.proofs.LookUps.{calculated_look, choice_look, filtered_look, left_look, measured_look, pair_look, pair_look_right, renamed_look, sub_look, sub_look_only}
use Rattle.vtl_meaning.proofs.laws.operators_by_look_up.Goals as goal

pub returns-clause-measures : goal.returns-clause-measures
returns-clause-measures c = measured_look

pub returns-clause-pair_left : goal.returns-clause-pair_left
returns-clause-pair_left c = pair_look

pub returns-clause-pair_right : goal.returns-clause-pair_right
returns-clause-pair_right c = pair_look_right

pub returns-clause-choice : goal.returns-clause-choice
returns-clause-choice c = choice_look

pub returns-clause-filter : goal.returns-clause-filter
returns-clause-filter c = λ p e a s out k. filtered_look p e a.structure s a.points out k

pub returns-clause-calc : goal.returns-clause-calc
returns-clause-calc c = calculated_look

pub returns-clause-left : goal.returns-clause-left
returns-clause-left c = left_look

pub returns-clause-rename : goal.returns-clause-rename
returns-clause-rename c = λ a s k. renamed_look a.structure s a.points k

pub returns-clause-sub : goal.returns-clause-sub
returns-clause-sub c = λ items a s j i h. sub_look items a.structure s (sub_tells items a.structure s i) i.values h.well_formed a.points h j

pub returns-clause-sub_only : goal.returns-clause-sub_only
returns-clause-sub_only c = λ items a s k q i h. sub_look_only items a.structure s (sub_tells items a.structure s i) i.values h.well_formed a.points h k q
