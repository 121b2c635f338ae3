use Rattle.std.proofs.Common.{◌≡◌, ◌++◌, map, take}
use Rattle.std.specs.List.{filter}
use Rattle.vtl_cell.specs.Outcome.{faults_by}
use Rattle.sql_groups.specs.Items.{around, fault_of_key, is_kept, row_of_key}
use Rattle.vtl_scalar.specs.Seen.{seen_of}
use Rattle.sql_groups.proofs.rows.push_groups.Given as goal

abbrev pub invariant-loop-number : goal.invariant-loop-number
invariant-loop-number g l = record {
  columns : l.table.columns ≡ l.fn.table.columns;
  rows : l.table.rows ≡ l.fn.table.rows ++ map (row_of_key (around l.p l.rows l.group) l.select) (filter (is_kept (around l.p l.rows l.group) l.select) (take l.number l.groups.keys));
  seen : seen_of l.seen ≡ faults_by (fault_of_key (around l.p l.rows l.group) l.select) (take l.number l.groups.keys);
}
