use Rattle.std.proofs.Common.{◌≡◌, fold, map}
use Rattle.std.specs.Vec.Iter.{into_iter_items}
use Rattle.sql_tree.specs.View.{expr_tree}
use Rattle.hierarchies_to_sql.specs.SideItems.{any_of, either_of}
use Rattle.hierarchies_to_sql.proofs.sides.any_of.Given as goal

abbrev pub invariant-loop-condition : goal.invariant-loop-condition
invariant-loop-condition l = fold either_of (expr_tree l.any) (map expr_tree (into_iter_items l.condition-iterator)) ≡ any_of (map expr_tree l.fn.conditions.items)
