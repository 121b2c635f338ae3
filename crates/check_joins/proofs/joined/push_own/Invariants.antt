use Rattle.std.proofs.Common.{◌≡◌, ◌++◌, take}
use Rattle.vtl_tree.specs.Joins.{own}
use Rattle.check_joins.proofs.joined.push_own.Given as goal

abbrev pub invariant-loop-component : goal.invariant-loop-component
invariant-loop-component l = l.out.items ≡ l.fn.out.items ++ own l.held l.identifiers l.alias (take l.component-index l.components)
