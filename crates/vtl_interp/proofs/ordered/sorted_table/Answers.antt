use Rattle.std.proofs.Common.{List, ℕ, length, subst, sym}
use Rattle.std.specs.List.{range_with_len}
use Rattle.std.specs.List.Sorted.{IsPermutation}
use Rattle.vtl_rows.specs.Tables.{listed}
use Rattle.vtl_interp.proofs.Reorders.{gathered_is_reordered, shared_is_reordered}
use Rattle.vtl_interp.proofs.ordered.sorted_table.Goals as goal

pub returns-then-are_all : goal.returns-then-are_all
returns-then-are_all c = shared_is_reordered (listed c.args.table.now) c.share.result c.share.ensures

pub returns : goal.returns
returns c =
    let all = subst (λ (l : List ℕ). IsPermutation (range_with_len 0 (length c.args.table.now.rows)) l) (sym c.deref-3.ensures.value) c.in_ok-places.ensures.order.all in
    gathered_is_reordered (listed c.args.table.now) c.deref-3.result.now c.gather.result all c.gather.ensures.columns c.gather.ensures.rows
