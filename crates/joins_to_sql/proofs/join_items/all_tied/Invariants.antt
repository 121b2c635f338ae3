use Rattle.std.proofs.Common.{◌≡◌, map, take}
use Rattle.vtl_tree.specs.Shown.{shown}
use Rattle.sql_tree.specs.View.{expr_tree}
use Rattle.joins_to_sql.specs.JoinItems.{tied_with}
use Rattle.joins_to_sql.proofs.join_items.all_tied.Given as goal

abbrev pub invariant-loop-component : goal.invariant-loop-component
invariant-loop-component l = map expr_tree l.conditions.items ≡ map (tied_with l.first l.alias) (shown (take l.component-index l.components))
