use Rattle.std.proofs.Common.{◌≡◌, drop}
use Rattle.std.specs.List.{list_any}
use Rattle.vtl_tree.specs.Joins.{clashes}
use Rattle.check_joins.proofs.joins.any_clashes.Given as goal

abbrev pub invariant-loop-component : goal.invariant-loop-component
invariant-loop-component l = list_any (clashes l.reference) (drop l.component-index l.components) ≡ list_any (clashes l.reference) l.components
