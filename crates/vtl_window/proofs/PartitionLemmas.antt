-- A stretch of points in order by the keys of a window is a partition, whatever is looked at behind these keys.
use Rattle.std.proofs.Common.{◌≡◌, ℕ, ◌-◌, ◌<◌, true, List, ◌++◌, length, drop, take, get_or, map}
use Rattle.std.specs.List.{AllByRecursion}
use Rattle.vtl_lists.specs.Perm.{Perm}
use Rattle.vtl_lists.proofs.Alls.{all_more}
use Rattle.vtl_cell.specs.Row.{Row}
use Rattle.vtl_rows.specs.Places.{IsOrderOf, row_at}
use Rattle.vtl_rows.specs.declared.column.SortKey.{SortKey}
use Rattle.vtl_frames.specs.Ranked.{AreInOrder}
use Rattle.vtl_frames.proofs.PartitionLemmas as partitions
use Rattle.vtl_frames.proofs.StretchLemmas.{IsStretch}
use Rattle.vtl_tree.specs.DataSet.{IsDataSet, is_point}
use Rattle.vtl_tree.specs.Environment.{DataSet}
use Rattle.vtl_tree.specs.Structure.{columns_of}
use Rattle.vtl_tree.specs.declared.structure.Component.{Component}
use Rattle.vtl_meaning.specs.Groups.{places_named}
use Rattle.vtl_meaning.specs.Windows.{partition_of}
use Rattle.vtl_tree.specs.declared.calls.Window.{Window}
use Rattle.vtl_meaning.proofs.Places.{point_length}
use Rattle.vtl_window.specs.Sorted.{order_keys, partition_keys}
use Rattle.vtl_window.proofs.SortLemmas.{partition_is}

-- points have a cell for each column
pub points_wide_each : (d : DataSet) → IsDataSet d.structure d.points → AllByRecursion (λ r. length r ≡ length (columns_of d.structure)) d.points
points_wide_each d h = all_more (λ r. is_point (columns_of d.structure) r ≡ true) (λ r. length r ≡ length (columns_of d.structure)) (point_length (columns_of d.structure)) d.points h.typed

-- a stretch of points by the keys of a window, and maybe by more
module _ (d : DataSet) (w : Window) (rest : List SortKey) (places : List ℕ)
    (order : IsOrderOf ((partition_keys (columns_of d.structure) w ++ order_keys (columns_of d.structure) w) ++ rest) d.points places)
    (s e : ℕ) (h : IsStretch (partition_keys (columns_of d.structure) w) d.points places s e) where
  abbrev xs : List Component
  xs = columns_of d.structure

  abbrev agreed : List ℕ
  agreed = places_named w.partition xs

  abbrev run : List ℕ
  run = take (e - s) (drop s places)

  pub within : AllByRecursion (λ k. k < length d.points) run
  within = partitions.within agreed (partition_keys xs w) (partition_is xs w) (order_keys xs w) rest d.points places order s e h

  -- in order by what stands behind the keys of the partition
  pub run_order : AreInOrder (order_keys xs w ++ rest) d.points run
  run_order = partitions.run_order agreed (partition_keys xs w) (partition_is xs w) (order_keys xs w) rest d.points places order s e h

  pub by_order : AreInOrder (order_keys xs w) d.points run
  by_order = partitions.by_order agreed (partition_keys xs w) (partition_is xs w) (order_keys xs w) rest d.points places order s e h

  -- the partition of each of its points
  pub perm_at : (i : ℕ) → i < length run → Perm (partition_of d w (row_at d.points (get_or run i 0))) (map (row_at d.points) run)
  perm_at = partitions.perm_at agreed (partition_keys xs w) (partition_is xs w) (order_keys xs w) rest d.points places order s e h
