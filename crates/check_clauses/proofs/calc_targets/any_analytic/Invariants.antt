use Rattle.std.proofs.Common.{◌≡◌, drop}
use Rattle.std.specs.Prelude.{map}
use Rattle.std.specs.List.{list_any}
use Rattle.vtl_tree.specs.NodeView.{item_tree}
use Rattle.check_clauses.specs.Targets.{is_analytic}
use Rattle.check_clauses.proofs.calc_targets.any_analytic.Given as goal

abbrev pub invariant-loop-item : goal.invariant-loop-item
invariant-loop-item l = list_any is_analytic (map item_tree (drop l.item-index l.items)) ≡ list_any is_analytic (map item_tree l.items)
