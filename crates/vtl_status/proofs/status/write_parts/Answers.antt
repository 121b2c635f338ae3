use Rattle.std.proofs.Common.{arith}
use Rattle.vtl_lists.proofs.Tests.{on_err}
use Rattle.vtl_status.proofs.LineLemmas.{part_front, part_taken}
use Rattle.vtl_status.proofs.status.write_parts.Goals as goal

pub returns-in_err-write_part-clause-front : goal.returns-in_err-write_part-clause-front
returns-in_err-write_part-clause-front g c =
    let taken = g.O.Sink.taken in
    on_err c.from_residual.result
    (part_front (taken c.args.out.now) (taken c.loop-part.out) (taken c.write_part.new.out) c.args.parts.now c.loop-part.part-index _ c.loop-part-test.true c.loop-part.invariant.taken c.in_err-write_part.ensures.front)

pub loop-part-preserved : goal.loop-part-preserved
loop-part-preserved g c =
    let taken = g.O.Sink.taken in
    record {
      faults = omega (arith, c.loop-part.invariant.faults, c.write_part.ensures.faults);
      taken = part_taken (taken c.args.out.now) (taken c.loop-part.out) (taken c.write_part.new.out) c.args.parts.now c.loop-part.part-index _ c.loop-part-test.true c.loop-part.invariant.taken c.in_ok-write_part.ensures.whole;
    }
