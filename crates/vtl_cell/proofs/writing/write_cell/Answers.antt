use Rattle.std.proofs.Common.{subst, sym}
use Rattle.vtl_cell.specs.Held.{IsHeld}
use Rattle.vtl_cell.specs.Writing.{ReadsBack}
use Rattle.vtl_cell.proofs.Texts.{integer_reads_back, day_reads_back, period_reads_back}
use Rattle.vtl_cell.proofs.writing.write_cell.Goals as goal

pub returns-in-Int-clause-reads_back : goal.returns-in-Int-clause-reads_back
returns-in-Int-clause-reads_back c =
    let p = c.args.p.now in subst (ReadsBack p) (sym c.in-Int.is) (integer_reads_back p c.in-Int.n)

pub returns-in-Day-clause-reads_back : goal.returns-in-Day-clause-reads_back
returns-in-Day-clause-reads_back c =
    let p = c.args.p.now in subst (ReadsBack p) (sym c.in-Day.is) (day_reads_back p c.in-Day.d c.write_day.ensures.reads_back)

pub returns-in-Period-clause-reads_back : goal.returns-in-Period-clause-reads_back
returns-in-Period-clause-reads_back c =
    let p = c.args.p.now in subst (ReadsBack p) (sym c.in-Period.is) (period_reads_back p c.in-Period.q c.write_period.ensures.reads_back)

pub returns-in-Day-clause-held : goal.returns-in-Day-clause-held
returns-in-Day-clause-held c = subst IsHeld (sym c.in-Day.is) c.write_day.ensures.valid

pub returns-in-Period-clause-held : goal.returns-in-Period-clause-held
returns-in-Period-clause-held c = subst IsHeld (sym c.in-Period.is) c.write_period.ensures.valid
