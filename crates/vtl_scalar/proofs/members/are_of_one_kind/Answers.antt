use Rattle.std.proofs.Common.{◌∙◌}
use Rattle.vtl_scalar.proofs.MemberLemmas.{one_kind_by_first}
use Rattle.vtl_scalar.proofs.members.are_of_one_kind.Goals as goal

pub returns-in-len1-up : goal.returns-in-len1-up
returns-in-len1-up c = c.are_of_kind_of.ensures ∙ one_kind_by_first c.args.cells.now c.first-item.result c.in-len1-up.len_at_least c.first-item.is
