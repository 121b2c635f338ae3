use Rattle.std.proofs.Common.{◌≡◌, take}
use Rattle.vtl_tree.specs.Shown.{shown}
use Rattle.vtl_tree.specs.Structure.{names_of}
use Rattle.times_to_sql.proofs.columns.names_of.Given as goal

abbrev pub invariant-loop-component : goal.invariant-loop-component
invariant-loop-component l = l.names.items ≡ names_of (shown (take l.component-index l.components))
