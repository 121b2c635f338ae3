use Rattle.std.proofs.Common.{rules}
use Rattle.std.specs.List.{range_with_len}
use Rattle.std.proofs.lemmas.Fn.{always_returns_same}
use Rattle.std.proofs.lemmas.List.Sorted.{IsPermutation-trans}
use Rattle.vtl_index.specs.RowKeys.{count_in, keys_in}
use Rattle.vtl_index.proofs.KeyOrder.{placed_ranks}
use Rattle.vtl_index.proofs.row_order.order_of.Goals as goal

pub returns : goal.returns
returns c =
    let answers = always_returns_same _ _ _ (λ a r f h. search rules) in
    record {
      all = IsPermutation-trans (range_with_len 0 (count_in c.args.keyed.now)) c.in_ok-order.order.items c.sort_by.new.self.items c.in_ok-order.ensures c.in_ok-sort_by.ensures.permutation;
      sorted = c.in_ok-sort_by.ensures.sorted _ (placed_ranks (keys_in c.args.keyed.now)) answers;
    }
