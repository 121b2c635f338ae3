use Rattle.std.proofs.Common.{◌<◌, ◌∙◌, length, arith}
use Rattle.vtl_join.proofs.Stepping.{found_within, tuples_more}
use Rattle.vtl_join.proofs.tuples.all_tuples.Goals as goal

pub push_tuple-requires : goal.push_tuple-requires
push_tuple-requires g c =
    let rows = c.args.lead.now.rows in
    let within : c.loop-i.i < length rows = omega (arith, c.len-i-end.ensures.rows, c.loop-i-test.true) in
    found_within rows c.args.sources.now c.loop-i.i c.deref.result.now (c.deref.ensures.value ∙ c.in_ok-found.ensures) within

pub loop-i-preserved : goal.loop-i-preserved
loop-i-preserved g c =
    let rows = c.args.lead.now.rows in
    let within : c.loop-i.i < length rows = omega (arith, c.len-i-end.ensures.rows, c.loop-i-test.true) in
    tuples_more c.args.whole c.args.sources.now rows c.loop-i.i c.deref.result.now c.loop-i.tuples.items c.push_tuple.new.tuples.items within (c.deref.ensures.value ∙ c.in_ok-found.ensures) c.loop-i.invariant c.in_ok-push_tuple.ensures
