use Rattle.std.proofs.Common.{◌≡◌, ◌++◌, take}
use Rattle.vtl_tree.specs.Shown.{shown}
use Rattle.groups_to_sql.specs.WindowItems.{unlisted_keys}
use Rattle.groups_to_sql.proofs.window_orders.push_unlisted.Given as goal

abbrev pub invariant-loop-component : goal.invariant-loop-component
invariant-loop-component l = l.keys.items ≡ l.fn.keys.items ++ unlisted_keys l.seen (shown (take l.component-index l.components))
