use Rattle.std.proofs.Common.{arith}
use Rattle.sql_engine.proofs.Noting.{create_next, creates_end}
use Rattle.sql_engine.proofs.last_reads.note_creates.Goals as goal

pub loop-place-preserved : goal.loop-place-preserved
loop-place-preserved c =
    create_next c.args.statements.now c.loop-place.place c.index-statements-place.result c.loop-place-test.true c.index-statements-place.is c.loop-place.last c.note_create.new.last c.in_ok-note_create.ensures c.loop-place.invariant

pub returns : goal.returns
returns c = creates_end c.args.statements.now c.loop-place.place c.loop-place.last (omega (arith, c.loop-place-test.false, c.loop-place.auto.place-end)) c.loop-place.invariant
