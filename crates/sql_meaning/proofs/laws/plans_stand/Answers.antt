use Rattle.sql_meaning.proofs.EarlyPlans.{chosen_stands}
use Rattle.sql_meaning.proofs.Planned.{plan_stands, written_stands}
use Rattle.sql_meaning.proofs.laws.plans_stand.Goals as goal

pub returns-clause-queries : goal.returns-clause-queries
returns-clause-queries c = λ b w q lawful plan typed. plan_stands b lawful w q plan typed

pub returns-clause-written : goal.returns-clause-written
returns-clause-written c = written_stands

pub returns-clause-chosen : goal.returns-clause-chosen
returns-clause-chosen c = chosen_stands
