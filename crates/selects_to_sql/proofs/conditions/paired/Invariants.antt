use Rattle.std.proofs.Common.{◌≡◌, ◌++◌, length, map}
use Rattle.std.specs.Vec.Iter.{into_iter_items}
use Rattle.sql_tree.specs.View.{expr_tree}
use Rattle.vtl_lists.specs.Balanced.{paired}
use Rattle.selects_to_sql.specs.Items.{both_of}
use Rattle.selects_to_sql.proofs.conditions.paired.Given as goal

abbrev pub invariant-loop-first : goal.invariant-loop-first
invariant-loop-first l = map expr_tree l.joined.items ++ paired both_of (map expr_tree (into_iter_items l.rest)) ≡ paired both_of (map expr_tree l.fn.conditions.items)

abbrev pub decreases-loop-first : goal.decreases-loop-first
decreases-loop-first l = length (into_iter_items l.rest)
