use Rattle.std.proofs.Common.{◌≡◌, true, subst}
use Rattle.vtl_time.specs.Periods.{YearPart, is_year_part}
use Rattle.vtl_time.proofs.PeriodLemmas.{index_below, part_numbers}
use Rattle.vtl_time.proofs.periods.Period.index.Goals as goal

pub overflow_sub-self-inside : goal.overflow_sub-self-inside
overflow_sub-self-inside c = (part_numbers c.self.inside.frequency c.self.inside.year c.self.inside.part c.self.invariant).from

pub returns-clause-below : goal.returns-clause-below
returns-clause-below c =
    index_below c.args.self (subst (λ (v : YearPart). is_year_part v.frequency v.year v.part ≡ true) c.self.view_is c.self.invariant)
