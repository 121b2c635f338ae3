use Rattle.std.proofs.Common.{◌≡◌, take}
use Rattle.check_clauses.specs.Clauses.{sub_names}
use Rattle.check_clauses.proofs.subsetting.names_of.Given as goal

abbrev pub invariant-loop-item : goal.invariant-loop-item
invariant-loop-item l = l.names.items ≡ sub_names (take l.item-index l.items)
