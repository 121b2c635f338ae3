use Rattle.std.proofs.Common.{arith, sym, ◌∙◌}
use Rattle.sql_engine.proofs.Ordering.{place_here, place_more, place_nowhere}
use Rattle.sql_engine.proofs.orders.place_of.Goals as goal

pub returns-then-eq : goal.returns-then-eq
returns-then-eq c = place_here c.args.name.now c.args.columns.now c.loop-place.place c.index-columns-place.result c.loop-place-test.true c.index-columns-place.is c.loop-place.invariant (sym c.eq.ensures ∙ c.if-eq.true)

pub loop-place-preserved : goal.loop-place-preserved
loop-place-preserved c = place_more c.args.name.now c.args.columns.now c.loop-place.place c.index-columns-place.result c.loop-place-test.true c.index-columns-place.is c.loop-place.invariant (sym c.eq.ensures ∙ c.if-eq.false)

pub returns : goal.returns
returns c = place_nowhere c.args.name.now c.args.columns.now c.loop-place.place (omega (arith, c.loop-place-test.false)) c.loop-place.invariant
