use Rattle.std.proofs.Common.{◌≡◌, map, take}
use Rattle.sql_tree.specs.View.{expr_tree}
use Rattle.selects_to_sql.specs.Items.{value_equality}
use Rattle.selects_to_sql.proofs.conditions.value_equalities.Given as goal

abbrev pub invariant-loop-item : goal.invariant-loop-item
invariant-loop-item l = map expr_tree l.conditions.items ≡ map (value_equality l.writer) (take l.item-index l.items)
