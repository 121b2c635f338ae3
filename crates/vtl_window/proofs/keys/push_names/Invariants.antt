use Rattle.std.proofs.Common.{◌≡◌, ◌++◌, map, take}
use Rattle.vtl_tree.specs.Shown.{shown}
use Rattle.vtl_tree.specs.Columns.{place_of}
use Rattle.vtl_window.specs.Sorted.{rising_key}
use Rattle.vtl_window.proofs.keys.push_names.Given as goal

abbrev pub invariant-loop-name : goal.invariant-loop-name
invariant-loop-name l = l.keys.items ≡ l.fn.keys.items ++ map (λ name. rising_key (place_of name (shown l.columns))) (take l.name-index l.names)
