use Rattle.std.proofs.Common.{◌≡◌, ◌++◌, take}
use Rattle.vtl_tree.specs.Shown.{shown}
use Rattle.vtl_window.specs.Sorted.{identifier_keys}
use Rattle.vtl_window.proofs.keys.push_identifiers.Given as goal

abbrev pub invariant-loop-identifier : goal.invariant-loop-identifier
invariant-loop-identifier l = l.keys.items ≡ l.fn.keys.items ++ identifier_keys (shown l.columns) (shown (take l.identifier-index l.identifiers))
