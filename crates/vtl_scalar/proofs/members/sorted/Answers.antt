use Rattle.vtl_lists.proofs.Perms.{Perm-from_IsPermutation, Perm-sym}
use Rattle.vtl_scalar.proofs.MemberLemmas.{sorted_in_order}
use Rattle.vtl_scalar.proofs.members.sorted.Goals as goal

pub returns : goal.returns
returns c = record {
  order = sorted_in_order c.args.cells.items c.sort.new.self.items c.requires c.in_ok-sort.ensures.permutation c.in_ok-sort.ensures.sorted;
  cells = Perm-sym (Perm-from_IsPermutation c.args.cells.items c.sort.new.self.items c.in_ok-sort.ensures.permutation);
}
