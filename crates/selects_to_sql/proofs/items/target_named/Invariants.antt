use Rattle.std.proofs.Common.{◌≡◌, drop, map}
use Rattle.vtl_tree.specs.NodeView.{item_tree as target_tree}
use Rattle.vtl_meaning.specs.Operators.{target_named}
use Rattle.selects_to_sql.proofs.items.target_named.Given as goal

abbrev pub invariant-loop-target : goal.invariant-loop-target
invariant-loop-target l = target_named (map target_tree (drop l.target-index l.targets)) l.name ≡ target_named (map target_tree l.targets) l.name
