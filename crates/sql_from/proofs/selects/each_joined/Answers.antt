use Rattle.std.proofs.Common.{length}
use Rattle.sql_from.specs.Conditions.{conditions_at, trees_of}
use Rattle.sql_from.specs.Keys.{last_of}
use Rattle.sql_from.specs.Together.{tested}
use Rattle.sql_from.proofs.Turned.{joined_as}
use Rattle.sql_from.proofs.selects.each_joined.Goals as goal

pub returns-clause-joined : goal.returns-clause-joined
returns-clause-joined g c =
    let s = c.args.sources.now in
    let p = c.args.p.now in
    joined_as c.args.kind (tested c.in_ok-on.on) (conditions_at p s (trees_of c.args.conditions.now)) (tested c.in_ok-filter.filter) (conditions_at p s (trees_of c.args.parts.now)) c.args.marks.now c.last_count-count.result (length (last_of s).rows) c.args.left.now
    c.in_ok-join_each.field-0 c.in_ok-on.ensures.test c.in_ok-filter.ensures.test c.last_count-count.ensures
    (record { width = c.in_ok-join_each.ensures.width; rows = c.in_ok-join_each.ensures.rows; seen = c.in_ok-join_each.ensures.seen })
