use Rattle.std.proofs.Common.{◌<◌, ◌*◌, Some, sym, subst}
use Rattle.vtl_time.specs.Periods.{parts_in_year}
use Rattle.vtl_time.specs.declared.periods.Frequency.TheVariants.{Annual, Semester, Quarter, Month}
use Rattle.vtl_series.specs.Kept.{AreWithin}
use Rattle.vtl_series.specs.declared.spans.Span.{Span}
use Rattle.vtl_series.proofs.SpanLemmas.{and_within}
use Rattle.vtl_series.proofs.spans.Spans.widen.Goals as goal

pub returns-in-Annual-clause-within : goal.returns-in-Annual-clause-within
returns-in-Annual-clause-within c =
    let below = subst (λ g. c.args.index < 10000 * parts_in_year g) c.in-Annual.is c.requires.below in
    subst (λ (w : Span). AreWithin (record { annual = Some w; semester = c.args.self.now.semester; quarter = c.args.self.now.quarter; month = c.args.self.now.month })) (sym c.widened.ensures) (and_within c.args.self.now c.requires.within Annual c.args.index below)

pub returns-in-Semester-clause-within : goal.returns-in-Semester-clause-within
returns-in-Semester-clause-within c =
    let below = subst (λ g. c.args.index < 10000 * parts_in_year g) c.in-Semester.is c.requires.below in
    subst (λ (w : Span). AreWithin (record { annual = c.args.self.now.annual; semester = Some w; quarter = c.args.self.now.quarter; month = c.args.self.now.month })) (sym c.widened-in-Semester.ensures) (and_within c.args.self.now c.requires.within Semester c.args.index below)

pub returns-in-Quarter-clause-within : goal.returns-in-Quarter-clause-within
returns-in-Quarter-clause-within c =
    let below = subst (λ g. c.args.index < 10000 * parts_in_year g) c.in-Quarter.is c.requires.below in
    subst (λ (w : Span). AreWithin (record { annual = c.args.self.now.annual; semester = c.args.self.now.semester; quarter = Some w; month = c.args.self.now.month })) (sym c.widened-in-Quarter.ensures) (and_within c.args.self.now c.requires.within Quarter c.args.index below)

pub returns-in-Month-clause-within : goal.returns-in-Month-clause-within
returns-in-Month-clause-within c =
    let below = subst (λ g. c.args.index < 10000 * parts_in_year g) c.in-Month.is c.requires.below in
    subst (λ (w : Span). AreWithin (record { annual = c.args.self.now.annual; semester = c.args.self.now.semester; quarter = c.args.self.now.quarter; month = Some w })) (sym c.widened-in-Month.ensures) (and_within c.args.self.now c.requires.within Month c.args.index below)
