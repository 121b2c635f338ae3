use Rattle.std.proofs.Common.{◌∙◌}
use Rattle.std.proofs.lemmas.List.{get_or_default}
use Rattle.sql_from.proofs.Gained.{found_more}
use Rattle.sql_from.proofs.lookup.add_found.Goals as goal

pub loop-number-preserved : goal.loop-number-preserved
loop-number-preserved g c =
    let h = g.F.Condition.value c.args.filter.now in
    let more = found_more h c.args.front.now c.args.found.now c.loop-number.number-index _ c.args.so_far.now c.loop-number.so_far c.keep_tuple.new.so_far c.args.met.now.items c.loop-number.met.items c.mark.new.met.items c.loop-number-test.true
    (get_or_default c.args.found.now c.loop-number.number-index _ _ c.loop-number-test.true) c.loop-number.invariant.gains c.loop-number.invariant.marked c.in_ok-keep_tuple.ensures.gains c.mark.ensures in
    record {
      width = c.in_ok-keep_tuple.ensures.gains.width ∙ c.loop-number.invariant.width;
      gains = more.0;
      marked = more.1;
    }
