use Rattle.sql_plan.proofs.Entries.{equality_join}
use Rattle.sql_plan.proofs.Listed.{is_listed}
use Rattle.sql_meaning_laws.proofs.ListedParts.{joins_are}
use Rattle.sql_meaning_laws.proofs.plans.equality_joins_are_chosen_join_by_join.Goals as goal

pub returns-clause-joins : goal.returns-clause-joins
returns-clause-joins c = joins_are

pub returns-clause-chosen : goal.returns-clause-chosen
returns-clause-chosen c = equality_join

pub returns-clause-fit : goal.returns-clause-fit
returns-clause-fit c = is_listed
