use Rattle.std.proofs.Common.{◌≡◌, ◌∙◌, ◌<◌, ◌-◌, ◌++◌, ◌∷◌, [], List, ℕ, length, get_or, take, arith, sym}
use Rattle.sql_from.proofs.Gained.{kept_more}
use Rattle.sql_from.proofs.Walks.{whole_tuple}
use Rattle.sql_from.proofs.joining.keep.Goals as goal

pub loop-i-preserved : goal.loop-i-preserved
loop-i-preserved g c =
    let f = g.C.Condition.value c.args.condition.now in
    let tuples = c.args.from.now.rows.tuples in
    let i = c.loop-i.i in
    let x = c.tuple-tuple.result.now in
    let w = c.width-width.result in
    let y : List ℕ = take (w - 1) x ++ get_or x (w - 1) 0 ∷ [] in
    let within : i < length tuples = omega (arith, c.len-i-end.ensures.tuples, c.loop-i-test.true) in
    let whole : y ≡ x = whole_tuple x w (c.tuple-tuple.ensures.width ∙ sym c.width-width.ensures.width) c.width-width.ensures.some in
    record {
      width = c.in_ok-keep_tuple.ensures.gains.width ∙ c.loop-i.invariant.width;
      gains = kept_more f tuples i x y _ c.loop-i.kept c.keep_tuple.new.so_far within c.tuple-tuple.ensures.tuple whole c.loop-i.invariant.gains c.in_ok-keep_tuple.ensures.gains;
    }
