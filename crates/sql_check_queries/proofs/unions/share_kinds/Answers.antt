use Rattle.std.proofs.Common.{◌∙◌, ◌≤◌, ◌<◌, min, length, sym, add-one, arith}
use Rattle.sql_check_queries.proofs.Shares.{beside_more, beside_end}
use Rattle.sql_check_queries.proofs.unions.share_kinds.Goals as goal

pub loop-i-preserved : goal.loop-i-preserved
loop-i-preserved c =
    let h : c.loop-i.i < length c.loop-i.shared = omega arith in
    let l : c.loop-i.i < length c.args.kinds.now = omega arith in
    rw add-one (beside_more c.loop-i.shared c.args.kinds.now c.loop-i.i _ c.shared_with.result _ h l c.shared_with.ensures ∙ c.loop-i.invariant)

pub returns : goal.returns
returns c =
    let h : min (length c.loop-i.shared) (length c.args.kinds.now) ≤ c.loop-i.i = omega arith in
    sym (beside_end c.loop-i.shared c.args.kinds.now c.loop-i.i h) ∙ c.loop-i.invariant
