use Rattle.std.proofs.Common.{◌≡◌, take}
use Rattle.vtl_tree.specs.Shown.{shown}
use Rattle.joins_to_sql.proofs.full_joins.same_components.Given as goal

abbrev pub invariant-loop-component : goal.invariant-loop-component
invariant-loop-component l = l.same.items ≡ shown (take l.component-index l.components)
