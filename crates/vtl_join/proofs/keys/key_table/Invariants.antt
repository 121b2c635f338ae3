use Rattle.std.proofs.Common.{◌≡◌, take}
use Rattle.vtl_rows.specs.Tables.{column_kinds}
use Rattle.vtl_tree.specs.Shown.{shown}
use Rattle.vtl_join.specs.Joining.{sets_of}
use Rattle.vtl_join.specs.Keys.{all_key_rows, key_kinds}
use Rattle.vtl_join.proofs.keys.key_table.Given as goal

abbrev pub invariant-loop-operand : goal.invariant-loop-operand
invariant-loop-operand l = record {
  columns : column_kinds l.keys.columns ≡ key_kinds (shown l.identifiers);
  rows : l.keys.rows ≡ all_key_rows (shown l.identifiers) (sets_of (take l.operand-index l.operands));
}
