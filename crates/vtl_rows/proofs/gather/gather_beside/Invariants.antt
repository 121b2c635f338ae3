use Rattle.std.proofs.Common.{◌≡◌, ◌++◌, [], length, map}
use Rattle.std.specs.Slice.Iter.{chunks_exact_rest, chunks_exact_size}
use Rattle.vtl_rows.specs.Gathered.{picked, pieces}
use Rattle.vtl_rows.specs.Tables.{listed}
use Rattle.vtl_rows.proofs.gather.gather_beside.Given as goal

abbrev pub invariant-loop-tuple : goal.invariant-loop-tuple
invariant-loop-tuple l = record {
  next : goal.iterator-loop-tuple.can_next l.tuple-iterator;
  finite : goal.iterator-loop-tuple.is_finite l.tuple-iterator;
  size : chunks_exact_size l.tuple-iterator ≡ length l.parts;
  columns : l.table.columns ≡ l.fn.columns.items;
  rows : l.table.rows ++ map (picked (map (λ t. listed t.now) l.parts) l.picks) (pieces (length l.parts) (chunks_exact_rest l.tuple-iterator)) ≡ map (picked (map (λ t. listed t.now) l.parts) l.picks) (pieces (length l.parts) l.tuples);
  none : l.row.items ≡ [];
}
