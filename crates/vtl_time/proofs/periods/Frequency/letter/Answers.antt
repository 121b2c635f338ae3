use Rattle.std.proofs.Common.{refl}
use Rattle.std.specs.Str.{chars}
use Rattle.vtl_time.proofs.periods.Frequency.letter.Goals as goal

pub returns-in-Annual : goal.returns-in-Annual
unfolding chars
returns-in-Annual c = rw c.in-Annual.is refl

pub returns-in-Semester : goal.returns-in-Semester
unfolding chars
returns-in-Semester c = rw c.in-Semester.is refl

pub returns-in-Quarter : goal.returns-in-Quarter
unfolding chars
returns-in-Quarter c = rw c.in-Quarter.is refl

pub returns-in-Month : goal.returns-in-Month
unfolding chars
returns-in-Month c = rw c.in-Month.is refl
