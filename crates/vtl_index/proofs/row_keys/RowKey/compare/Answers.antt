use Rattle.std.proofs.Common.{◌≡◌, ◌∙◌, arith, length, min, sym}
use Rattle.vtl_index.specs.RowKeys.{key_cell}
use Rattle.vtl_index.proofs.KeyOrder.{compare_ended}
use Rattle.vtl_index.proofs.row_keys.RowKey.compare.Goals as goal

pub returns : goal.returns
returns c =
    let a = c.args.self.now in
    let b = c.args.other.now in
    let ended : c.loop-i.i ≡ min (length c.args.self.now.columns.now) (length c.args.other.now.columns.now) = omega arith in
    c.cmp.ensures ∙ sym (compare_ended (key_cell a.p.now a.row.now) (key_cell b.p.now b.row.now) a.columns.now b.columns.now c.loop-i.i ended) ∙ c.loop-i.invariant
