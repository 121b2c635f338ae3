use Rattle.std.proofs.Common.{refl, sym}
use Rattle.vtl_time.proofs.DayLemmas.{day_from_cast, no_day_from_cast, day_of-some, day_of-none}
use Rattle.vtl_time.proofs.days.make_day.Goals as goal

pub invariant_of-result : goal.invariant_of-result
invariant_of-result c =
    day_from_cast c.args.year c.args.month c.args.day c.requires.year_in c.requires.month_in c.requires.day_in (c.in-Ok.ensures.succeeds.0 refl)

pub returns-in-Ok : goal.returns-in-Ok
returns-in-Ok c =
    sym (day_of-some c.args.year c.args.month c.args.day (day_from_cast c.args.year c.args.month c.args.day c.requires.year_in c.requires.month_in c.requires.day_in (c.in-Ok.ensures.succeeds.0 refl)))

pub returns-in-Err : goal.returns-in-Err
returns-in-Err c =
    sym (day_of-none c.args.year c.args.month c.args.day (no_day_from_cast c.args.year c.args.month c.args.day c.requires.year_in c.requires.month_in c.requires.day_in c.in-Err.ensures.succeeds.1))
