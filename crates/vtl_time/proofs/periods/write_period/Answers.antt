use Rattle.std.proofs.Common.{◌≡◌, ◌≤◌, true, ap, subst, arith}
use Rattle.vtl_time.specs.Periods.{YearPart, is_year_part, parts_in_year}
use Rattle.vtl_time.proofs.PeriodLemmas.{reads_back, short_part}
use Rattle.vtl_time.proofs.periods.write_period.Goals as goal

pub short_text-requires : goal.short_text-requires
short_text-requires c =
    let few : parts_in_year c.p.inside.frequency ≤ 9 = omega (arith, ap parts_in_year c.in-Annual.is) in
    short_part c.p.inside.frequency c.p.inside.year c.p.inside.part few c.p.invariant

pub short_text-requires-in-Semester : goal.short_text-requires-in-Semester
short_text-requires-in-Semester c =
    let few : parts_in_year c.p.inside.frequency ≤ 9 = omega (arith, ap parts_in_year c.in-Semester.is) in
    short_part c.p.inside.frequency c.p.inside.year c.p.inside.part few c.p.invariant

pub short_text-requires-in-Quarter : goal.short_text-requires-in-Quarter
short_text-requires-in-Quarter c =
    let few : parts_in_year c.p.inside.frequency ≤ 9 = omega (arith, ap parts_in_year c.in-Quarter.is) in
    short_part c.p.inside.frequency c.p.inside.year c.p.inside.part few c.p.invariant

pub returns-in-Annual-clause-reads_back : goal.returns-in-Annual-clause-reads_back
returns-in-Annual-clause-reads_back c =
    reads_back c.args.p (subst (λ (v : YearPart). is_year_part v.frequency v.year v.part ≡ true) c.p.view_is c.p.invariant)

pub returns-in-Semester-clause-reads_back : goal.returns-in-Semester-clause-reads_back
returns-in-Semester-clause-reads_back c =
    reads_back c.args.p (subst (λ (v : YearPart). is_year_part v.frequency v.year v.part ≡ true) c.p.view_is c.p.invariant)

pub returns-in-Quarter-clause-reads_back : goal.returns-in-Quarter-clause-reads_back
returns-in-Quarter-clause-reads_back c =
    reads_back c.args.p (subst (λ (v : YearPart). is_year_part v.frequency v.year v.part ≡ true) c.p.view_is c.p.invariant)

pub returns-in-Month-clause-reads_back : goal.returns-in-Month-clause-reads_back
returns-in-Month-clause-reads_back c =
    reads_back c.args.p (subst (λ (v : YearPart). is_year_part v.frequency v.year v.part ≡ true) c.p.view_is c.p.invariant)
