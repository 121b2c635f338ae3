use Rattle.std.proofs.Common.{ap}
use Rattle.sql_tree.specs.declared.parts.Source.{Source}
use Rattle.sql_plan.proofs.Places.{joined_next}
use Rattle.sql_plan.proofs.standing.places.Goals as goal

pub loop-join-preserved : goal.loop-join-preserved
loop-join-preserved c =
    joined_next c.args.select.now.from.alias c.as_slice-joins.result.now c.loop-join.join c.index-joins-join.result c.join_source.result.now.alias c.loop-join.places c.put-in-loop-join.new.places
    c.loop-join-test.true c.index-joins-join.is (ap (λ (s : Source). s.alias) c.join_source.ensures) c.loop-join.invariant c.in_ok-put-2.ensures
