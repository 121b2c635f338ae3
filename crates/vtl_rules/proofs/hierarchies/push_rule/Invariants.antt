use Rattle.std.proofs.Common.{◌≡◌, ◌++◌}
use Rattle.std.specs.List.{filter_map, range_with_len}
use Rattle.vtl_rules.specs.ComputedItems.{made_row}
use Rattle.vtl_rules.proofs.hierarchies.push_rule.Given as goal

abbrev pub invariant-loop-number : goal.invariant-loop-number
invariant-loop-number g l = record {
  columns : l.points.table.columns ≡ l.fn.points.table.columns;
  rows : l.points.table.rows ≡ l.fn.points.table.rows ++ filter_map (made_row l.items l.rule l.column) (range_with_len 0 l.number);
  seen : l.points.seen ≡ l.fn.points.seen;
}
