use Rattle.std.proofs.Common.{◌≡◌, ◌≤◌, length, arith}
use Rattle.sql_from.proofs.Alone.{all_singles}
use Rattle.sql_from.proofs.lent_table.counts_up.Goals as goal

pub returns : goal.returns
returns c = λ all.
    let tuples = c.args.tuples.now.tuples in
    let many : length tuples ≡ c.args.count = omega (arith, c.len.ensures.tuples, c.if-len-count.false) in
    let past : c.args.count ≤ c.loop-i.i = omega (arith, c.loop-i-test.false) in
    all_singles tuples c.args.count c.loop-i.i many past c.loop-i.invariant
