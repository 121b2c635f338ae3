use Rattle.std.proofs.Common.{refl}
use Rattle.std.specs.Str.{chars}
use Rattle.sql_print.proofs.gaps.Gap.text.Goals as goal

pub returns-in-Nothing : goal.returns-in-Nothing
unfolding chars
returns-in-Nothing c = rw c.in-Nothing.is refl

pub returns-in-Space : goal.returns-in-Space
unfolding chars
returns-in-Space c = rw c.in-Space.is refl

pub returns-in-Statement : goal.returns-in-Statement
unfolding chars
returns-in-Statement c = rw c.in-Statement.is refl

pub returns-in-Clause : goal.returns-in-Clause
unfolding chars
returns-in-Clause c = rw c.in-Clause.is refl

pub returns-in-Item : goal.returns-in-Item
unfolding chars
returns-in-Item c = rw c.in-Item.is refl
