use Rattle.std.proofs.Common.{◌≡◌, true, subst}
use Rattle.vtl_time.specs.Days.{CalendarDay, is_calendar_day}
use Rattle.vtl_time.proofs.DayLemmas.{reads_back}
use Rattle.vtl_time.proofs.days.write_day.Goals as goal

pub returns-clause-reads_back : goal.returns-clause-reads_back
returns-clause-reads_back c =
    reads_back c.args.d (subst (λ (v : CalendarDay). is_calendar_day v.year v.month v.day ≡ true) c.d.view_is c.d.invariant)
