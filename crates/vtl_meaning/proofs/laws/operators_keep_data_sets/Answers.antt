use Rattle.vtl_meaning.proofs.Kept.{calculated_kept, choice_kept, filtered_kept, left_kept, measured_kept, pair_kept, renamed_kept, sub_kept}
use Rattle.vtl_meaning.proofs.laws.operators_keep_data_sets.Goals as goal

pub returns-clause-measures : goal.returns-clause-measures
returns-clause-measures c = measured_kept

pub returns-clause-pair : goal.returns-clause-pair
returns-clause-pair c = pair_kept

pub returns-clause-choice : goal.returns-clause-choice
returns-clause-choice c = choice_kept

pub returns-clause-filter : goal.returns-clause-filter
returns-clause-filter c = λ p e a s out. filtered_kept p e a.structure s a.points out

pub returns-clause-calc : goal.returns-clause-calc
returns-clause-calc c = calculated_kept

pub returns-clause-left : goal.returns-clause-left
returns-clause-left c = left_kept

pub returns-clause-rename : goal.returns-clause-rename
returns-clause-rename c = λ a s. renamed_kept a.structure s a.points

pub returns-clause-sub : goal.returns-clause-sub
returns-clause-sub c = sub_kept
