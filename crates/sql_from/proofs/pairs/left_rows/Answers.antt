use Rattle.std.proofs.Common.{◌∙◌, ◌<◌, length, arith}
use Rattle.std.specs.List.{filter}
use Rattle.vtl_cell.specs.Outcome.{faults_by}
use Rattle.sql_from.specs.Joins.{fault_of, from_left, numbers_to, passes}
use Rattle.sql_from.proofs.Gained.{lefts_more, marks_more}
use Rattle.sql_from.proofs.pairs.left_rows.Goals as goal

pub loop-i-preserved : goal.loop-i-preserved
loop-i-preserved g c =
    let f = g.P.Pairing.value c.args.pairing.now in
    let h = g.P.Pairing.keeps c.args.pairing.now in
    let n = g.P.Pairing.count c.args.pairing.now in
    let tuples = c.args.left.now.rows.tuples in
    let i = c.loop-i.i in
    let x = c.tuple.result.now in
    let within : i < length tuples = omega (arith, c.len-i-end.ensures.tuples, c.loop-i-test.true) in
    record {
      width = c.in_ok-left_row.ensures.gains.width ∙ c.loop-i.invariant.width;
      gains = lefts_more h (λ y. faults_by (fault_of f y) (numbers_to n)) (from_left c.args.keeps f n) tuples i x _ c.loop-i.so_far c.left_row.new.so_far within c.tuple.ensures.tuple c.loop-i.invariant.gains c.in_ok-left_row.ensures.gains;
      met = marks_more (λ y. filter (passes f y) (numbers_to n)) tuples i x c.args.met.now.items c.loop-i.met.items c.left_row.new.met.items within c.tuple.ensures.tuple c.loop-i.invariant.met c.in_ok-left_row.ensures.met;
    }
