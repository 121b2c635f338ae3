use Rattle.std.proofs.Common.{◌≡◌, take}
use Rattle.vtl_tree.specs.Shown.{shown}
use Rattle.selects_to_sql.specs.Groups.{group_of}
use Rattle.selects_to_sql.proofs.groups.group_of.Given as goal

abbrev pub invariant-loop-component : goal.invariant-loop-component
invariant-loop-component l = l.columns.items ≡ group_of (shown (take l.component-index l.components))
