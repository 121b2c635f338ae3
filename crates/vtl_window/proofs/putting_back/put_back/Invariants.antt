use Rattle.std.proofs.Common.{◌≡◌, ℕ, drop, length, map}
use Rattle.std.specs.List.{range_with_len}
use Rattle.std.specs.Vec.Iter.{into_iter_items}
use Rattle.vtl_cell.specs.Conversion.{as_kind}
use Rattle.vtl_cell.specs.Outcome.{Outcome, after, join}
use Rattle.vtl_cell.specs.declared.cell.Cell.{Cell}
use Rattle.vtl_scalar.specs.Seen.{seen_of}
use Rattle.vtl_window.specs.Analyses.{cells_by, faults_of}
use Rattle.vtl_window.proofs.PutLemmas.{IsPutBack}
use Rattle.vtl_window.proofs.putting_back.put_back.Given as goal

abbrev pub invariant-loop-place : goal.invariant-loop-place
invariant-loop-place l = record {
  many : length l.cells.items ≡ length l.places;
  put : (f : ℕ → Outcome Cell) → l.fn.sorted.items ≡ map f l.places
      → IsPutBack (λ m. after m (as_kind l.p l.kind)) f (drop l.place-index l.places) (into_iter_items l.rest) l.cells.items (seen_of l.seen)
      (cells_by (λ k. after (f k) (as_kind l.p l.kind)) (range_with_len 0 (length l.places))) (join (seen_of l.fn.seen) (faults_of (λ k. after (f k) (as_kind l.p l.kind)) (range_with_len 0 (length l.places))));
}
