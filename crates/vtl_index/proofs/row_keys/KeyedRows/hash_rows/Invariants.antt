use Rattle.std.proofs.Common.{◌≡◌}
use Rattle.vtl_index.specs.RowKeys.{hashes_by, keys_in}
use Rattle.vtl_index.proofs.row_keys.KeyedRows.hash_rows.Given as goal

abbrev pub invariant-loop-i : goal.invariant-loop-i
invariant-loop-i l = l.hashes.items ≡ hashes_by l.hashing (keys_in l.self) l.first l.i
