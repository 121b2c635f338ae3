-- The place of a point in its partition is where it stands in the partition in order; and a whole partition.
use Rattle.std.proofs.Common.{◌≡◌, ℕ, zero, suc, ◌<◌, ◌⊎◌, inl, inr, List, [], ◌∷◌, length, map, filter, get_or, take, Bool, true, false, cond, not, refl, sym, ap, ◌∙◌, arith, true≢false, None}
use Rattle.std.specs.Prelude.{count_by, unwrap_or}
use Rattle.std.specs.List.{AllByRecursion}
use Rattle.std.specs.Ordering.{is_lt}
use Rattle.std.proofs.lemmas.List.{take_all}
use Rattle.std.proofs.lemmas.List.Sums.{length-filter}
use Rattle.vtl_lists.specs.Apart.{all_apart}
use Rattle.vtl_cell.specs.Frames.{frame_of}
use Rattle.vtl_cell.specs.Groups.{group_value}
use Rattle.vtl_cell.specs.Row.{Row, same_key, same_row}
use Rattle.vtl_decimal.specs.Settings.{Settings}
use Rattle.vtl_lists.specs.Sorting.{IsOrder, Rises, le_by}
use Rattle.vtl_cell.specs.declared.cell.Cell.{Cell}
use Rattle.vtl_cell.specs.declared.operator.AggKind.{AggKind}
use Rattle.vtl_cell.proofs.Aggregates.{group-Perm}
use Rattle.vtl_lists.proofs.Aparts.{all_apart-Perm, all_apart-filter, apart_more, apart_parts}
use Rattle.vtl_cell.proofs.Keys.{window_order}
use Rattle.vtl_lists.proofs.Perms.{AllByRecursion-Perm, Perm-map, Perm-sym}
use Rattle.vtl_cell.proofs.Rows.{same_row-is, same_row-refl, same_row-sym}
use Rattle.vtl_lists.proofs.Sorts.{Rises-sorted_by}
use Rattle.vtl_lists.proofs.Alls.{all_filtered}
use Rattle.vtl_rows.specs.Tables.{cells_at}
use Rattle.vtl_tree.specs.DataSet.{IsDataSet}
use Rattle.vtl_tree.specs.Environment.{DataSet}
use Rattle.vtl_tree.specs.Structure.{columns_of, key_width}
use Rattle.vtl_tree.specs.declared.calls.Window.{Window}
use Rattle.vtl_meaning.specs.Groups.{places_named, points_with}
use Rattle.vtl_meaning.specs.Windows.{bound_of, default_frame, frame_in, framed, identifier_places, keys_in, partition_of, point_cmp, seen, stand_of}
use Rattle.vtl_meaning.proofs.Partitions.{count_by-Perm, ordered_perm}

-- ---- places in a list in order

item_has : (P : Row → Type 0) (ys : List Row) (j : ℕ) (d : Row) → j < length ys → AllByRecursion P ys → P (get_or ys j d)
item_has P [] j d k all = absurd (omega arith)
item_has P (z ∷ ys) zero d k all = all.0
item_has P (z ∷ ys) (suc j) d k all = item_has P ys j d (omega arith) all.1

module _ (le : Row → Row → Bool) (o : IsOrder le) where
  -- in a list in order, whose items are apart, as many stand before an item as its place says
  before_none : (x : Row) (xs : List Row) → AllByRecursion (λ q. le x q ≡ true) xs → filter (λ q. not (le x q)) xs ≡ []
  before_none x [] all = refl
  before_none x (q ∷ xs) all = ap (λ b. cond (not b) (q ∷ filter (λ z. not (le x z)) xs) (filter (λ z. not (le x z)) xs)) all.0 ∙ before_none x xs all.1

  itself : (x : Row) → le x x ≡ true
  itself x = either (o.total x x)
    where
      either : (le x x ≡ true) ⊎ (le x x ≡ true) → le x x ≡ true
      either (inl h) = h
      either (inr h) = h

  -- of two that are not the same only one stands before the other
  stands_before : (x y : Row) → le x y ≡ true → same_row x y ≡ false → le y x ≡ false
  stands_before x y h apart = go (le y x) refl
    where
      go : (b : Bool) → le y x ≡ b → b ≡ false
      go true e = absurd (true≢false (sym (same_row-refl x) ∙ ap (same_row x) (o.antisym x y h e) ∙ apart))
      go false e = refl

  places : (xs : List Row) (i : ℕ) (d : Row) → Rises le xs → all_apart same_row xs ≡ true → i < length xs → length (filter (λ q. not (le (get_or xs i d) q)) xs) ≡ i
  places [] i d r apart h = absurd (omega arith)
  places (x ∷ xs) zero d r apart h =
      ap (λ b. length (cond (not b) (x ∷ filter (λ z. not (le x z)) xs) (filter (λ z. not (le x z)) xs))) (itself x) ∙ ap length (before_none x xs r.0)
  places (x ∷ xs) (suc i) d r apart h =
      let y = get_or xs i d in
      let parts = apart_parts same_row x xs apart in
      let few : i < length xs = omega arith in
      let ih = places xs i d r.1 parts.1 few in
      ap (λ b. length (cond (not b) (x ∷ filter (λ z. not (le y z)) xs) (filter (λ z. not (le y z)) xs))) (stands_before x y (item_has (λ q. le x q ≡ true) xs i d few r.0) (item_has (λ q. same_row x q ≡ false) xs i d few parts.0)) ∙ ap suc ih

not_not : (b : Bool) → not (not b) ≡ b
not_not true = refl
not_not false = refl

-- points whose keys are apart are apart
pub rows_apart : (n : ℕ) (points : List Row) → all_apart (same_key n) points ≡ true → all_apart same_row points ≡ true
rows_apart n [] e = refl
rows_apart n (r ∷ points) e =
    let parts = apart_parts (same_key n) r points e in
    apart_more same_row r points (each points parts.0) (rows_apart n points parts.1)
  where
    one : (q : Row) → same_key n r q ≡ false → (b : Bool) → same_row r q ≡ b → b ≡ false
    one q h true f = absurd (true≢false (sym (same_row-refl (take n r)) ∙ ap (same_key n r) (same_row-is r q f) ∙ h))
    one q h false f = refl

    each : (qs : List Row) → AllByRecursion (λ q. same_key n r q ≡ false) qs → AllByRecursion (λ q. same_row r q ≡ false) qs
    each [] all = tt
    each (q ∷ qs) all = (one q all.0 (same_row r q) refl, each qs all.1)

module _ (d : DataSet) (w : Window) (r : Row) where
  order : IsOrder (le_by (point_cmp d.structure w))
  order = window_order (keys_in (columns_of d.structure) w) (identifier_places d.structure)

  abbrev agreed : List ℕ
  agreed = places_named w.partition (columns_of d.structure)

  -- points of a partition have the same partition
  partition_same : (i : ℕ) → i < length (stand_of d w r).ordered → partition_of d w (get_or (stand_of d w r).ordered i []) ≡ partition_of d w r
  partition_same i few =
      let P : Row → Type 0 = λ q. same_row (cells_at agreed q) (cells_at agreed r) ≡ true in
      let all = AllByRecursion-Perm P (ordered_perm d w r) (all_filtered (λ q. same_row (cells_at agreed q) (cells_at agreed r)) d.points) in
      let y = get_or (stand_of d w r).ordered i [] in
      ap (points_with agreed d.points) (same_row-is (cells_at agreed y) (cells_at agreed r) (item_has P (stand_of d w r).ordered i [] few all))

  ordered_apart : IsDataSet d.structure d.points → all_apart same_row (stand_of d w r).ordered ≡ true
  ordered_apart h =
      sym (all_apart-Perm same_row same_row-sym (ordered_perm d w r))
      ∙ all_apart-filter same_row (λ q. same_row (cells_at agreed q) (cells_at agreed r)) d.points (rows_apart (key_width d.structure) d.points h.distinct)

  pub places_are : (i : ℕ) → IsDataSet d.structure d.points → i < length (stand_of d w r).ordered → (stand_of d w (get_or (stand_of d w r).ordered i [])).place ≡ i
  places_are i h few =
      let y = get_or (stand_of d w r).ordered i [] in
      let t : Row → Bool = λ q. is_lt (point_cmp d.structure w q y) in
      let twice : (λ q. not (not (t q))) ≡ t = λ j q. not_not (t q) j in
      ap (count_by t) (partition_same i few)
      ∙ count_by-Perm t (ordered_perm d w r)
      ∙ sym (length-filter t (stand_of d w r).ordered)
      ∙ ap (λ (u : Row → Bool). length (filter u (stand_of d w r).ordered)) (sym twice)
      ∙ places (le_by (point_cmp d.structure w)) order (stand_of d w r).ordered i [] (Rises-sorted_by order (partition_of d w r)) (ordered_apart h) few

-- ---- whole partitions

whole_frame : {A : Type 0} (w : Window) (i : ℕ) (xs : List A) → w.order ≡ [] → w.frame ≡ None → framed w i xs ≡ xs
whole_frame w i xs e f = ap (λ g. frame_of (bound_of g.start) (bound_of g.end) i xs) same ∙ take_all (length xs) xs (omega arith)
  where
    same : frame_in w ≡ default_frame []
    same = λ j. unwrap_or (f j) (default_frame (e j))

pub whole_group : (p : Settings) (d : DataSet) (w : Window) (f : AggKind) (at : Row → Cell) (r : Row) → w.order ≡ [] → w.frame ≡ None → group_value p f (seen w at (stand_of d w r)) ≡ group_value p f (map at (partition_of d w r))
whole_group p d w f at r e g =
    let s = stand_of d w r in
    ap (group_value p f) (whole_frame w s.place (map at s.ordered) e g)
    ∙ group-Perm p f (map at s.ordered) (map at (partition_of d w r)) (Perm-map at (Perm-sym (ordered_perm d w r)))
