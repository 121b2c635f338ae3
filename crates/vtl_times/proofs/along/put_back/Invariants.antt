use Rattle.std.proofs.Common.{◌≡◌, ℕ, drop, length, map}
use Rattle.std.specs.Vec.Iter.{into_iter_items}
use Rattle.vtl_cell.specs.Outcome.{Outcome}
use Rattle.vtl_cell.specs.declared.cell.Cell.{Cell}
use Rattle.vtl_times.specs.Put.{put_each}
use Rattle.vtl_times.proofs.along.put_back.Given as goal

abbrev pub invariant-loop-place : goal.invariant-loop-place
invariant-loop-place l = record {
  many : length l.values.items ≡ length l.fn.values.items;
  put : (f : ℕ → Outcome Cell) → l.fn.made.items ≡ map f l.run
      → (into_iter_items l.rest ≡ map f (drop l.place-index l.run)) × (put_each f (drop l.place-index l.run) l.values.items ≡ put_each f l.run l.fn.values.items);
}
