use Rattle.std.proofs.Common.{arith, get_or, length, subst}
use Rattle.std.specs.Bool.{OnTrue}
use Rattle.vtl_csv.specs.Distinct.{AreDistinct}
use Rattle.vtl_csv.proofs.DistinctLemmas.{distinct_is_apart}
use Rattle.vtl_csv.proofs.repeats.first_repeat.Goals as goal

pub returns-then-branch : goal.returns-then-branch
returns-then-branch c =
    let keys = c.args.keys.now in
    let rows = c.args.table.now.rows in
    let distinct = subst (λ b. OnTrue b (AreDistinct (get_or keys c.loop-key.key-index 0) rows (length rows))) c.if-branch.true c.in_ok-has_distinct_integers.ensures in
    distinct_is_apart keys c.loop-key.key-index rows (omega arith) distinct
