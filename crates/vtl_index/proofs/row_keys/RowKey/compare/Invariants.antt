use Rattle.std.proofs.Common.{◌≡◌, drop, map}
use Rattle.vtl_cell.specs.Row.{row_cmp}
use Rattle.vtl_index.specs.RowKeys.{key_cell, key_of}
use Rattle.vtl_index.proofs.row_keys.RowKey.compare.Given as goal

abbrev pub invariant-loop-i : goal.invariant-loop-i
invariant-loop-i l =
    row_cmp (map (key_cell l.self.p.now l.self.row.now) (drop l.i l.self.columns.now)) (map (key_cell l.other.p.now l.other.row.now) (drop l.i l.other.columns.now))
    ≡ row_cmp (key_of l.self) (key_of l.other)
