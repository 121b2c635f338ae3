-- Where points stand in their partitions, and what windows see from there.
use Rattle.std.specs.Prelude.{count_by, nat_le, if◌then◌else◌}
use Rattle.std.specs.List.{AllByRecursion, Contains}
use Rattle.std.specs.Cmp.{IsTotalOrder}
use Rattle.std.specs.Ordering.{is_lt, ordering_reverse, ordering_then}
use Rattle.std.specs.declared.cmp.Ordering.{Ordering}
use Rattle.std.specs.declared.cmp.Ordering.TheVariants.{Less, Equal, Greater}
use Rattle.std.proofs.Common.{◌≡◌, ℕ, zero, suc, ◌+◌, ◌-◌, ◌<◌, ◌≤◌, Bool, true, false, List, [], ◌∷◌, ◌++◌, map, length, get_or, take, drop, refl, sym, ap, ◌∙◌, subst, arith}
use Rattle.std.proofs.lemmas.List.{get_or_default, get_or_past, length-map, take_all}
use Rattle.std.proofs.lemmas.List.Sums.{length-filter}
use Rattle.std.proofs.Math.ListN.{get_or-map}
use Rattle.vtl_lists.specs.Perm.{Perm}
use Rattle.vtl_lists.proofs.Perms.{AllByRecursion-Perm, Perm-map, Perm-sym}
use Rattle.vtl_lists.proofs.Alls.{all_more}
use Rattle.vtl_cell.specs.Frames.{frame_of, lag_of, lead_of}
use Rattle.vtl_cell.specs.Groups.{group_value}
use Rattle.vtl_cell.specs.Row.{Row, row_cmp, same_row}
use Rattle.vtl_cell.specs.Sorted.{Key, in_order, by_keys, by_keys_then, key_cmp, rising, window_cmp}
use Rattle.vtl_cell.specs.declared.cell.Cell.{Cell}
use Rattle.vtl_cell.specs.declared.operator.AggKind.{AggKind}
use Rattle.vtl_cell.proofs.Aggregates.{group-Perm}
use Rattle.vtl_cell.proofs.Keys.{by_keys_total}
use Rattle.vtl_cell.proofs.Rows.{row_cmp_total, same_row-refl}
use Rattle.vtl_decimal.specs.Settings.{Settings}
use Rattle.vtl_rows.specs.Tables.{cells_at}
use Rattle.vtl_tree.specs.DataSet.{IsDataSet}
use Rattle.vtl_tree.specs.Environment.{DataSet}
use Rattle.vtl_tree.specs.Structure.{columns_of}
use Rattle.vtl_tree.specs.declared.calls.Window.{Window}
use Rattle.vtl_tuples.proofs.Lists.{filter_same}
use Rattle.vtl_meaning.specs.Groups.{places_named}
use Rattle.vtl_meaning.specs.Windows.{bound_of, frame_in, identifier_places, keys_in, partition_of, point_cmp, seen, stand_of}
use Rattle.vtl_meaning.proofs.Partitions.{count_by-Perm, ordered_perm}
use Rattle.vtl_meaning.proofs.WindowPlaces.{places_are}
use Rattle.vtl_meaning_laws.specs.Frames.{from_first_to_current, of_current_alone}
use Rattle.vtl_meaning_laws.proofs.TupleLists.{contains_kept, each_contained, item_has}

-- ---- the place of a point
contains_Perm : {X : Type 0} (xs ys : List X) (x : X) → Perm xs ys → Contains xs x → Contains ys x
contains_Perm xs ys x p c = item_has (Contains ys) xs x (AllByRecursion-Perm (Contains ys) (Perm-sym p) (each_contained ys)) c

module _ (d : DataSet) (w : Window) (r : Row) (h : IsDataSet d.structure d.points) (c : Contains d.points r) where
  abbrev ordered : List Row
  ordered = (stand_of d w r).ordered

  in_ordered : Contains ordered r
  in_ordered =
      let agreed = places_named w.partition (columns_of d.structure) in
      contains_Perm (partition_of d w r) ordered r (ordered_perm d w r) (contains_kept (λ q. same_row (cells_at agreed q) (cells_at agreed r)) d.points r c (same_row-refl (cells_at agreed r)))

  -- the place at which the list has it is its place
  own_place : (stand_of d w r).place ≡ in_ordered.0
  own_place =
      ap (λ q. (stand_of d w q).place) (sym in_ordered.2 ∙ get_or_default ordered in_ordered.0 r [] in_ordered.1) ∙ places_are d w r in_ordered.0 h in_ordered.1

  pub place_within : (stand_of d w r).place < length ordered
  place_within = subst (λ i. i < length ordered) (sym own_place) in_ordered.1

  pub at_place : get_or ordered (stand_of d w r).place [] ≡ r
  at_place = ap (λ i. get_or ordered i []) own_place ∙ get_or_default ordered in_ordered.0 [] r in_ordered.1 ∙ in_ordered.2

  -- so the cell at its place is its own, whatever the default
  pub cell_at_place : (at : Row → Cell) (default : Cell) → get_or (map at ordered) (stand_of d w r).place default ≡ at r
  cell_at_place at default =
      get_or_default (map at ordered) (stand_of d w r).place default (at []) (simp (length-map) place_within)
      ∙ get_or-map at ordered (stand_of d w r).place [] ∙ ap at at_place

-- ---- running aggregates
pub running_whole : (p : Settings) (d : DataSet) (w : Window) (f : AggKind) (at : Row → Cell) (r : Row) → frame_in w ≡ from_first_to_current → suc (stand_of d w r).place ≡ length (stand_of d w r).ordered
    → group_value p f (seen w at (stand_of d w r)) ≡ group_value p f (map at (partition_of d w r))
running_whole p d w f at r e last =
    let s = stand_of d w r in
    let cells = map at s.ordered in
    let all : take (s.place + 1) cells ≡ cells = take_all (s.place + 1) cells (omega (arith, last, length-map s.ordered at)) in
    ap (λ g. group_value p f (frame_of (bound_of g.start) (bound_of g.end) s.place cells)) e ∙ ap (group_value p f) all
    ∙ group-Perm p f cells (map at (partition_of d w r)) (Perm-map at (Perm-sym (ordered_perm d w r)))

-- ---- the current point alone
one_item : {X : Type 0} (xs : List X) (i : ℕ) (d : X) → i < length xs → drop i (take (suc i) xs) ≡ get_or xs i d ∷ []
one_item [] i d h = absurd (omega arith)
one_item (x ∷ xs) zero d h = refl
one_item (x ∷ xs) (suc i) d h = one_item xs i d (omega arith)

pub seen_alone : (d : DataSet) (w : Window) (at : Row → Cell) (r : Row) → IsDataSet d.structure d.points → Contains d.points r → frame_in w ≡ of_current_alone → seen w at (stand_of d w r) ≡ at r ∷ []
seen_alone d w at r h c e =
    let s = stand_of d w r in
    let cells = map at s.ordered in
    let next : s.place + 1 ≡ suc s.place = omega arith in
    ap (λ g. frame_of (bound_of g.start) (bound_of g.end) s.place cells) e ∙ ap (λ n. drop s.place (take n cells)) next
    ∙ one_item cells s.place (at r) (simp (length-map) (place_within d w r h c)) ∙ ap (λ v. v ∷ []) (cell_at_place d w r h c at (at r))

-- ---- `lag` and `lead`
module _ (d : DataSet) (w : Window) (at : Row → Cell) (n : ℕ) (default : Cell) (r q : Row) (h : IsDataSet d.structure d.points) (same : partition_of d w q ≡ partition_of d w r) (apart : (stand_of d w q).place ≡ (stand_of d w r).place + n) where
  same_order : (stand_of d w q).ordered ≡ (stand_of d w r).ordered
  same_order = ap (in_order (keys_in (columns_of d.structure) w) (identifier_places d.structure)) same

  pub lagged : Contains d.points r → lag_of n default (stand_of d w q).place (map at (stand_of d w q).ordered) ≡ at r
  lagged c =
      let i = (stand_of d w r).place in
      let far : nat_le n (i + n) ≡ true = grind arith in
      let back : i + n - n ≡ i = omega arith in
      ap (λ j. lag_of n default j (map at (stand_of d w q).ordered)) apart ∙ ap (λ l. lag_of n default (i + n) (map at l)) same_order
      ∙ ap (λ b. if b then get_or (map at (stand_of d w r).ordered) (i + n - n) default else default) far ∙ ap (λ j. get_or (map at (stand_of d w r).ordered) j default) back
      ∙ cell_at_place d w r h c at default

  pub led : Contains d.points q → lead_of n default (stand_of d w r).place (map at (stand_of d w r).ordered) ≡ at q
  led c =
      ap (λ j. get_or (map at (stand_of d w r).ordered) j default) (sym apart) ∙ ap (λ l. get_or (map at l) (stand_of d w q).place default) (sym same_order)
      ∙ cell_at_place d w q h c at default

module _ (d : DataSet) (w : Window) (at : Row → Cell) (default : Cell) (r : Row) where
  own_apart : (stand_of d w r).place ≡ (stand_of d w r).place + 0
  own_apart = omega arith

  pub lagged_none : IsDataSet d.structure d.points → Contains d.points r → lag_of 0 default (stand_of d w r).place (map at (stand_of d w r).ordered) ≡ at r
  lagged_none h c = lagged d w at 0 default r r h refl own_apart c

  pub led_none : IsDataSet d.structure d.points → Contains d.points r → lead_of 0 default (stand_of d w r).place (map at (stand_of d w r).ordered) ≡ at r
  led_none h c = led d w at 0 default r r h refl own_apart c

pub lag_before : (n : ℕ) (default : Cell) (i : ℕ) (cells : List Cell) → i < n → lag_of n default i cells ≡ default
lag_before n default i cells h =
    let below : nat_le n i ≡ false = grind arith in
    ap (λ b. if b then get_or cells (i - n) default else default) below

pub lead_behind : (n : ℕ) (default : Cell) (i : ℕ) (cells : List Cell) → length cells ≤ i + n → lead_of n default i cells ≡ default
lead_behind n default i cells h = get_or_past cells (i + n) default h

-- ---- ranks
count_same : {X : Type 0} (t u : X → Bool) (xs : List X) → AllByRecursion (λ x. t x ≡ u x) xs → count_by t xs ≡ count_by u xs
count_same t u xs all = sym (length-filter t xs) ∙ ap length (filter_same t u xs all) ∙ length-filter u xs

itself : {X : Type 0} {R : X → X → Ordering} → IsTotalOrder R → (x : X) → R x x ≡ Equal
itself {R = R} o x = go (R x x) (o.antisymm x x)
  where
    go : (b : Ordering) → b ≡ ordering_reverse b → b ≡ Equal
    go Less e = cc
    go Equal e = refl
    go Greater e = cc

-- what ties with one of two that tie stands to both alike
tied : {X : Type 0} {R : X → X → Ordering} → IsTotalOrder R → (x q r : X) → R q r ≡ Equal → R x q ≡ R x r
tied o x q r e = o.antisymm x q ∙ ap ordering_reverse (o.congr q r x e) ∙ sym (o.antisymm x r)

-- keys that tell two rows apart decide alone
decided : (keys more : List Key) (q r : Row) → (by_keys keys q r ≡ Equal → q ≡ r) → is_lt (by_keys (keys ++ more) q r) ≡ is_lt (by_keys keys q r)
decided [] more q r only = ap (λ z. is_lt (by_keys more z r)) (only refl) ∙ ap is_lt (itself (by_keys_total more) r)
decided (k ∷ keys) more q r only = go (key_cmp k q r) refl (decided keys more q r)
  where
    go : (o : Ordering) → key_cmp k q r ≡ o → ((by_keys keys q r ≡ Equal → q ≡ r) → is_lt (by_keys (keys ++ more) q r) ≡ is_lt (by_keys keys q r)) → is_lt (ordering_then o (by_keys (keys ++ more) q r)) ≡ is_lt (ordering_then o (by_keys keys q r))
    go Less e ih = refl
    go Equal e ih = ih (λ f. only (ap (λ o. ordering_then o (by_keys keys q r)) e ∙ f))
    go Greater e ih = refl

-- rows that tie by keys and more tie by these keys
front_ties : (ks more : List Key) (x y : Row) → by_keys (ks ++ more) x y ≡ Equal → by_keys ks x y ≡ Equal
front_ties [] more x y e = refl
front_ties (k ∷ ks) more x y e = one (key_cmp k x y) e (front_ties ks more x y)
  where
    one : (o : Ordering) → ordering_then o (by_keys (ks ++ more) x y) ≡ Equal → (by_keys (ks ++ more) x y ≡ Equal → by_keys ks x y ≡ Equal) → ordering_then o (by_keys ks x y) ≡ Equal
    one Less f ih = cc
    one Equal f ih = ih f
    one Greater f ih = cc

-- and so in the whole order of a window
pub decided_whole : (keys : List Key) (places : List ℕ) (q r : Row) → (by_keys keys q r ≡ Equal → q ≡ r) → is_lt (window_cmp keys places q r) ≡ is_lt (by_keys keys q r)
decided_whole keys places q r only = go (by_keys_then keys places q r) refl ∙ decided keys (map rising places) q r only
  where
    go : (o : Ordering) → by_keys_then keys places q r ≡ o → is_lt (ordering_then o (row_cmp q r)) ≡ is_lt o
    go Less e = refl
    go Equal e =
        let same : q ≡ r = only (front_ties keys (map rising places) q r e) in
        ap (λ z. is_lt (row_cmp z r)) same ∙ ap is_lt (itself row_cmp_total r)
    go Greater e = refl

module _ (p : Settings) (d : DataSet) (w : Window) (r : Row) where
  abbrev keys : List Key
  keys = keys_in (columns_of d.structure) w

  abbrev stands_before : Row → Row → Bool
  stands_before y q = is_lt (by_keys keys q y)

  pub rank_is_place : AllByRecursion (λ q. by_keys keys q r ≡ Equal → q ≡ r) (partition_of d w r) → count_by (stands_before r) (stand_of d w r).ordered ≡ (stand_of d w r).place
  rank_is_place alone =
      sym (count_by-Perm (stands_before r) (ordered_perm d w r))
      ∙ sym (count_same (λ q. is_lt (point_cmp d.structure w q r)) (stands_before r) (partition_of d w r)
      (all_more (λ q. by_keys keys q r ≡ Equal → q ≡ r) (λ q. is_lt (point_cmp d.structure w q r) ≡ stands_before r q) (λ q only. decided_whole keys (identifier_places d.structure) q r only) (partition_of d w r) alone))

  pub ranks_tie : (q : Row) → partition_of d w q ≡ partition_of d w r → by_keys keys q r ≡ Equal → count_by (stands_before q) (stand_of d w q).ordered ≡ count_by (stands_before r) (stand_of d w r).ordered
  ranks_tie q same e =
      let there : stands_before q ≡ stands_before r = λ j x. is_lt (tied (by_keys_total keys) x q r e j) in
      ap (λ l. count_by (stands_before q) (in_order keys (identifier_places d.structure) l)) same ∙ ap (λ t. count_by t (stand_of d w r).ordered) there
