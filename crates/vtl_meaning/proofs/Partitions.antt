-- What holds of all points holds of a partition and of the cells in a frame; and points in another order.
use Rattle.std.proofs.Common.{◌≡◌, ℕ, zero, suc, ◌-◌, cond, Bool, true, false, List, [], ◌∷◌, take, length, get_or, ◌∙◌, sym}
use Rattle.std.specs.Prelude.{count_by, nat_le}
use Rattle.std.specs.List.{AllByRecursion}
use Rattle.std.specs.Ordering.{is_lt}
use Rattle.std.proofs.lemmas.List.Sums.{length-filter}
use Rattle.vtl_cell.specs.Frames.{before, lag_of, up_to}
use Rattle.vtl_lists.specs.Perm.{Perm}
use Rattle.vtl_cell.specs.Row.{Row, same_row}
use Rattle.vtl_cell.specs.declared.cell.Cell.{Cell}
use Rattle.vtl_cell.proofs.Keys.{window_order}
use Rattle.vtl_lists.proofs.Perms.{AllByRecursion-Perm, Perm-filter, Perm-sym, length-Perm}
use Rattle.vtl_lists.proofs.Sorts.{AllByRecursion-filter, Perm-sorted_by, sorted_by-Perm}
use Rattle.vtl_lists.proofs.Alls.{all_drop, all_take}
use Rattle.vtl_rows.specs.Tables.{cells_at}
use Rattle.vtl_tree.specs.Environment.{DataSet}
use Rattle.vtl_tree.specs.Structure.{columns_of}
use Rattle.vtl_tree.specs.declared.structure.Structure.{Structure}
use Rattle.vtl_tree.specs.declared.calls.Window.{Window}
use Rattle.vtl_meaning.specs.Groups.{places_named}
use Rattle.vtl_meaning.specs.Windows.{bound_of, frame_in, framed, identifier_places, keys_in, partition_of, point_cmp, stand_of}

-- ---- lists

-- an item or the default
pub all_or : {X : Type 0} (P : X → Type 0) (xs : List X) (i : ℕ) (d : X) → AllByRecursion P xs → P d → P (get_or xs i d)
all_or P [] i d all h = h
all_or P (x ∷ xs) zero d all h = all.0
all_or P (x ∷ xs) (suc i) d all h = all_or P xs i d all.1 h

-- ---- frames

pub framed_all : {X : Type 0} (P : X → Type 0) (w : Window) (i : ℕ) (xs : List X) → AllByRecursion P xs → AllByRecursion P (framed w i xs)
framed_all P w i xs all =
    let last = up_to (bound_of (frame_in w).end) (length xs) i in
    all_drop P (before (bound_of (frame_in w).start) (length xs) i) (take last xs) (all_take P last xs all)

pub lag_has : (P : Cell → Type 0) (n : ℕ) (d : Cell) (i : ℕ) (cells : List Cell) → P d → AllByRecursion P cells → P (lag_of n d i cells)
lag_has P n d i cells h all = go (nat_le n i)
  where
    go : (t : Bool) → P (cond t (get_or cells (i - n) d) d)
    go true = all_or P cells (i - n) d all h
    go false = h

-- ---- partitions

pub partition_all : (P : Row → Type 0) (d : DataSet) (w : Window) (r : Row) → AllByRecursion P d.points → AllByRecursion P (partition_of d w r)
partition_all P d w r all =
    let places = places_named w.partition (columns_of d.structure) in
    AllByRecursion-filter P (λ q. same_row (cells_at places q) (cells_at places r)) d.points all

pub ordered_perm : (d : DataSet) (w : Window) (r : Row) → Perm (partition_of d w r) (stand_of d w r).ordered
ordered_perm d w r = Perm-sym (Perm-sorted_by (window_order (keys_in (columns_of d.structure) w) (identifier_places d.structure)) (partition_of d w r))

pub ordered_all : (P : Row → Type 0) (d : DataSet) (w : Window) (r : Row) → AllByRecursion P d.points → AllByRecursion P (stand_of d w r).ordered
ordered_all P d w r all = AllByRecursion-Perm P (ordered_perm d w r) (partition_all P d w r all)

-- ---- counting

pub count_by-Perm : {X : Type 0} (t : X → Bool) {xs ys : List X} → Perm xs ys → count_by t xs ≡ count_by t ys
count_by-Perm t {xs} {ys} p = sym (length-filter t xs) ∙ length-Perm (Perm-filter t p) ∙ length-filter t ys

-- ---- points in another order

-- the stand of a point is the same
pub stand_same : (a : Structure) (w : Window) (r : Row) (xs ys : List Row) → Perm xs ys → stand_of (record { structure = a; points = xs }) w r ≡ stand_of (record { structure = a; points = ys }) w r
stand_same a w r xs ys p =
    let places = places_named w.partition (columns_of a) in
    let q = Perm-filter (λ z. same_row (cells_at places z) (cells_at places r)) p in
    let count = count_by-Perm (λ z. is_lt (point_cmp a w z r)) q in
    let order = sorted_by-Perm (window_order (keys_in (columns_of a) w) (identifier_places a)) q in
    λ i. record { point = r; place = count i; ordered = order i }
