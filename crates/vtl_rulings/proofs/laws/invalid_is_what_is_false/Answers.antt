use Rattle.vtl_rulings.proofs.Shown.{check_shows, invalid_shows}
use Rattle.vtl_rulings.proofs.laws.invalid_is_what_is_false.Goals as goal

pub returns-clause-datapoint : goal.returns-clause-datapoint
returns-clause-datapoint c = invalid_shows

pub returns-clause-check : goal.returns-clause-check
returns-clause-check c = check_shows
