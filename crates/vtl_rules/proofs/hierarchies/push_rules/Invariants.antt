use Rattle.std.proofs.Common.{◌≡◌, ◌++◌, take}
use Rattle.std.specs.List.{flat_map}
use Rattle.vtl_tree.specs.RuleItems.{definitions}
use Rattle.vtl_rules.specs.ComputedItems.{made_rows}
use Rattle.vtl_rules.proofs.hierarchies.push_rules.Given as goal

abbrev pub invariant-loop-i : goal.invariant-loop-i
invariant-loop-i g l = record {
  columns : l.points.table.columns ≡ l.fn.points.table.columns;
  rows : l.points.table.rows ≡ l.fn.points.table.rows ++ flat_map (made_rows l.items l.made) (definitions (take l.i l.rules));
  seen : l.points.seen ≡ l.fn.points.seen;
}
