use Rattle.std.proofs.Common.{[], ◌∷◌, sym, arith}
use Rattle.vtl_cell.proofs.KindLemmas.{meet_long}
use Rattle.vtl_cell.proofs.operator_kinds.two.Goals as goal

pub returns-in_default-2 : goal.returns-in_default-2
returns-in_default-2 c = sym (meet_long (c.args.first ∷ c.args.second ∷ []) c.args.kinds.now (omega (arith, c.in_default.len_at_least)))
