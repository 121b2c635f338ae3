use Rattle.std.proofs.Common.{◌≡◌, ◌++◌}
use Rattle.std.specs.List.{filter_map, range_with_len}
use Rattle.vtl_cell.specs.Outcome.{faults_by, join}
use Rattle.vtl_scalar.specs.Seen.{seen_of}
use Rattle.vtl_rules.specs.SideValues.{checked_at, fault_at}
use Rattle.vtl_rules.proofs.hierarchy_checks.push_rule.Given as goal

abbrev pub invariant-loop-number : goal.invariant-loop-number
invariant-loop-number g l = record {
  columns : l.points.table.columns ≡ l.fn.points.table.columns;
  rows : l.points.table.rows ≡ l.fn.points.table.rows ++ filter_map (checked_at l.p l.check.out l.check.mode l.check.kind l.check.items l.x) (range_with_len 0 l.number);
  seen : seen_of l.points.seen ≡ join (seen_of l.fn.points.seen) (faults_by (fault_at l.p l.check.out l.check.mode l.check.kind l.check.items l.x) (range_with_len 0 l.number));
}
