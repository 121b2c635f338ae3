use Rattle.vtl_index.specs.RowKeys.{count_in, keys_in}
use Rattle.vtl_index.proofs.LeadWalk.{Walked}
use Rattle.vtl_index.proofs.finder.leads_in_order.Given as goal

abbrev pub invariant-loop-row : goal.invariant-loop-row
invariant-loop-row l = Walked (keys_in l.keyed) (count_in l.keyed) l.order l.row-index l.lead l.leads.items
