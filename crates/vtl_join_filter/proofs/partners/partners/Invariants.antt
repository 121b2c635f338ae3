use Rattle.std.specs.List.{AllByRecursion}
use Rattle.vtl_join_filter.specs.Partners.{IsPartner}
use Rattle.vtl_join_filter.proofs.partners.partners.Given as goal

abbrev pub invariant-loop-pair : goal.invariant-loop-pair
invariant-loop-pair l = AllByRecursion (IsPartner l.asked) l.partners.items
