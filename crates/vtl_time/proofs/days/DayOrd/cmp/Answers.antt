use Rattle.std.proofs.Common.{◌≡◌, ◌∙◌, true, subst, rules}
use Rattle.vtl_time.specs.Days.{CalendarDay, is_calendar_day, day_cmp}
use Rattle.vtl_time.proofs.DayOrder.{day_cmp-number}
use Rattle.vtl_time.proofs.days.DayOrd.cmp.Goals as goal

pub returns-clause-time : goal.returns-clause-time
returns-clause-time c =
    let a = subst (λ (v : CalendarDay). is_calendar_day v.year v.month v.day ≡ true) c.self.view_is c.self.invariant in
    let b = subst (λ (v : CalendarDay). is_calendar_day v.year v.month v.day ≡ true) c.other.view_is c.other.invariant in
    let fields : c.then-2.result ≡ day_cmp c.args.self.now c.args.other.now = search rules in
    fields ∙ day_cmp-number c.args.self.now c.args.other.now a b
