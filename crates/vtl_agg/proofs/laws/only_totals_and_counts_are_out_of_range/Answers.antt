use Rattle.vtl_agg.proofs.RangeLemmas.{group_fault, group_is_ok}
use Rattle.vtl_agg.proofs.laws.only_totals_and_counts_are_out_of_range.Goals as goal

pub returns-clause-fault : goal.returns-clause-fault
returns-clause-fault c = group_fault

pub returns-clause-others : goal.returns-clause-others
returns-clause-others c = group_is_ok
