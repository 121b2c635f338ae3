use Rattle.std.proofs.Common.{sym, arith}
use Rattle.vtl_time.proofs.PeriodLemmas.{part_holds, part_numbers, period_of-some, period_of-none}
use Rattle.vtl_time.proofs.periods.make_period.Goals as goal
use Rattle.vtl_time.proofs.periods.make_period.Goals.{then-part-lt1-via-then-part-lt1, then-part-lt1-via-else-part-lt1+then-part-from}

pub returns-then-part-lt1 : goal.returns-then-part-lt1
returns-then-part-lt1 c =
    let f = c.args.frequency in
    let y = c.args.year in
    let n = c.args.part in
    elim c.then-part-lt1.branch [
      | then-part-lt1-via-then-part-lt1 w ↦ sym (period_of-none f y n (λ h. omega (arith, (part_numbers f y n h).from, w.if-part-lt1.true)))
      | then-part-lt1-via-else-part-lt1+then-part-from w ↦ sym (period_of-none f y n (λ h. omega (arith, (part_numbers f y n h).to, w.parts.ensures, w.from.ensures, w.if-part-from.true)))
    ]

pub invariant_of-result : goal.invariant_of-result
invariant_of-result c =
    part_holds c.args.frequency c.args.year c.args.part c.requires c.if-part-lt1.false (omega (arith, c.parts.ensures, c.from.ensures, c.if-part-from.false))

pub returns : goal.returns
returns c =
    sym (period_of-some c.args.frequency c.args.year c.args.part (part_holds c.args.frequency c.args.year c.args.part c.requires c.if-part-lt1.false (omega (arith, c.parts.ensures, c.from.ensures, c.if-part-from.false))))
