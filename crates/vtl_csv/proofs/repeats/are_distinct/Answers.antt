use Rattle.std.proofs.Common.{◌<◌, ◌∙◌, [], arith, length}
use Rattle.std.proofs.lemmas.List.{get_or_default}
use Rattle.vtl_csv.proofs.DistinctLemmas.{distance_moves, one_more}
use Rattle.vtl_csv.proofs.repeats.are_distinct.Goals as goal

pub loop-i-preserved : goal.loop-i-preserved
loop-i-preserved c =
    let within : c.loop-i.i < length c.args.table.now.rows = omega arith in
    let row = c.row.ensures.row ∙ get_or_default c.args.table.now.rows c.loop-i.i c.row.result.now [] within in
    let here = distance_moves _ c.args.column c.row.result.now _ c.distance_at.result c.in-Some.distance c.distance_at.ensures c.in-Some.is row in
    one_more _ c.args.column c.args.table.now.rows c.loop-i.met c.loop-i.i c.in-Some.distance c.loop-i.invariant here (omega arith) c.if-met-distance.false
