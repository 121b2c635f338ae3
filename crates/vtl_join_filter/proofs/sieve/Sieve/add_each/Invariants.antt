use Rattle.std.proofs.Common.{◌≡◌, map}
use Rattle.std.specs.Slice.Iter.{chunks_exact_rest, chunks_exact_size}
use Rattle.vtl_rows.specs.Gathered.{pieces}
use Rattle.vtl_join.specs.Gatherings.{point_of, points_of, width_of}
use Rattle.vtl_join_filter.specs.Sifting.{IsReady, asked_of, so_far}
use Rattle.vtl_join_filter.proofs.sieve.Sieve.add_each.Given as goal

abbrev pub invariant-loop-tuple : goal.invariant-loop-tuple
invariant-loop-tuple l = record {
  next : goal.iterator-loop-tuple.can_next l.tuple-iterator;
  finite : goal.iterator-loop-tuple.is_finite l.tuple-iterator;
  size : chunks_exact_size l.tuple-iterator ≡ width_of l.asked.gathering;
  ready : IsReady l.asked l.self;
  found : asked_of l.asked (so_far l.asked l.self) (map (point_of l.asked.gathering) (pieces (width_of l.asked.gathering) (chunks_exact_rest l.tuple-iterator))) ≡ asked_of l.asked (so_far l.asked l.fn.self) (points_of l.asked.gathering l.tuples);
}
