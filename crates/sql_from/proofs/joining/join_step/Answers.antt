use Rattle.std.proofs.Common.{◌∙◌, cond, false, replicate, ap}
use Rattle.vtl_scalar.specs.Seen.{seen_of}
use Rattle.sql_from.specs.Joins.{keeps_right}
use Rattle.sql_from.proofs.Stepped.{step_rows, step_seen}
use Rattle.sql_from.proofs.joining.join_step.Goals as goal

pub returns-clause-rows : goal.returns-clause-rows
returns-clause-rows g c =
    let f = g.P.Pairing.value c.args.pairing.now in
    let h = g.P.Pairing.keeps c.args.pairing.now in
    let n = g.P.Pairing.count c.args.pairing.now in
    let start = c.in_ok-met.ensures ∙ ap (λ m. replicate (cond (keeps_right c.args.kind) m 0) false) c.count.ensures in
    step_rows c.args.kind f h c.args.marks.now n c.args.left.now.rows.tuples c.keeps_left.result c.keeps_left.ensures c.in_ok-met.met.items c.left_rows.new.met.items c.deref.result.now start c.in_ok-so_far.ensures.met c.deref.ensures.value
    c.in_ok-so_far.so_far c.add_unmet.new.so_far c.in_ok-add_unmet.ensures.gains c.in_ok-so_far.ensures.rows

pub returns-clause-seen : goal.returns-clause-seen
returns-clause-seen g c =
    let f = g.P.Pairing.value c.args.pairing.now in
    let h = g.P.Pairing.keeps c.args.pairing.now in
    let n = g.P.Pairing.count c.args.pairing.now in
    let start = c.in_ok-met.ensures ∙ ap (λ m. replicate (cond (keeps_right c.args.kind) m 0) false) c.count.ensures in
    step_seen c.args.kind f h c.args.marks.now n c.args.left.now.rows.tuples c.keeps_left.result c.keeps_left.ensures c.in_ok-met.met.items c.left_rows.new.met.items c.deref.result.now start c.in_ok-so_far.ensures.met c.deref.ensures.value
    c.in_ok-so_far.so_far c.add_unmet.new.so_far c.in_ok-add_unmet.ensures.gains (seen_of c.args.left.now.seen) c.in_ok-so_far.ensures.seen
