use Rattle.sql_meaning_laws.proofs.EarlyTests.{is_tested, may_be}
use Rattle.sql_meaning_laws.proofs.ListedParts.{parts_are}
use Rattle.sql_meaning_laws.proofs.plans.early_parts_are_chosen_part_by_part.Goals as goal

pub returns-clause-parts : goal.returns-clause-parts
returns-clause-parts c = parts_are

pub returns-clause-chosen : goal.returns-clause-chosen
returns-clause-chosen c = may_be

pub returns-clause-fit : goal.returns-clause-fit
returns-clause-fit c = is_tested
