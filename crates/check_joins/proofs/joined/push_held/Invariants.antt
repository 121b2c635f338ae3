use Rattle.std.proofs.Common.{◌≡◌, ◌++◌, take}
use Rattle.std.specs.Prelude.{filter}
use Rattle.vtl_tree.specs.Structure.{names_of}
use Rattle.vtl_tree.specs.Joins.{is_held}
use Rattle.check_joins.proofs.joined.push_held.Given as goal

abbrev pub invariant-loop-component : goal.invariant-loop-component
invariant-loop-component l = l.out.items ≡ l.fn.out.items ++ names_of (filter (is_held l.kind) (take l.component-index l.components))
