use Rattle.std.proofs.Common.{◌≡◌, length, map}
use Rattle.sql_tree.specs.View.{expr_tree}
use Rattle.selects_to_sql.specs.Items.{all_of}
use Rattle.selects_to_sql.proofs.conditions.all_of.Given as goal

abbrev pub invariant-loop-alloc : goal.invariant-loop-alloc
invariant-loop-alloc l = all_of (map expr_tree l.rest.items) ≡ all_of (map expr_tree l.fn.conditions.items)

abbrev pub decreases-loop-alloc : goal.decreases-loop-alloc
decreases-loop-alloc l = length l.rest.items
