-- The rows of a partition stand in SQL in the order and at the places that they have in VTL.
use Rattle.std.proofs.Common.{◌≡◌, ℕ, zero, suc, ◌+◌, ◌-◌, Bool, true, false, cond, ◌||◌, not, List, [], ◌∷◌, ◌++◌, map, filter, take, length, refl, ap, sym, ◌∙◌, subst, arith, append-nil, true≢false}
use Rattle.std.specs.Prelude.{count_by}
use Rattle.std.specs.Cmp.{IsTotalOrder}
use Rattle.std.specs.List.{AllByRecursion}
use Rattle.std.specs.Ordering.{flip_args, is_lt, on, ordering_reverse, ordering_then}
use Rattle.std.specs.declared.cmp.Ordering.{Ordering}
use Rattle.std.specs.declared.cmp.Ordering.TheVariants.{Less, Equal, Greater}
use Rattle.std.proofs.lemmas.Cmp.{then_total}
use Rattle.std.proofs.lemmas.List.Sums.{length-filter}
use Rattle.vtl_lists.specs.Apart.{all_apart}
use Rattle.vtl_cell.specs.Order.{cell_cmp}
use Rattle.vtl_cell.specs.Row.{Row, column_of, row_cmp, same_row}
use Rattle.vtl_cell.specs.Sorted.{Key, by_keys, in_order, key_cmp, rising, window_cmp}
use Rattle.vtl_lists.specs.Sorting.{Rises, le_by}
use Rattle.vtl_cell.specs.declared.cell.Cell.{Cell}
use Rattle.vtl_lists.proofs.Aparts.{apart_parts}
use Rattle.vtl_cell.proofs.Keys.{by_keys_total, window_order}
use Rattle.vtl_cell.proofs.Orders.{cell_cmp_total, then_ties}
use Rattle.vtl_lists.proofs.Perms.{AllByRecursion-Perm, Perm-sym}
use Rattle.vtl_cell.proofs.Rows.{row_cmp-ties, row_cmp_total, same_row-is, same_row-refl, same_row-sym}
use Rattle.vtl_lists.proofs.Sorts.{AllByRecursion-filter, Perm-sorted_by, Rises-sorted_by, sorted_is}
use Rattle.vtl_lists.proofs.Alls.{all_filtered}
use Rattle.vtl_rows.specs.Tables.{cells_at}
use Rattle.vtl_rows.proofs.AllColumns.{keys_append}
use Rattle.vtl_tree.specs.DataSet.{is_point}
use Rattle.vtl_tree.specs.Structure.{IsStructure, columns_of, key_width, same_name}
use Rattle.vtl_tree.specs.declared.structure.Component.{Component}
use Rattle.vtl_tree.specs.declared.structure.Structure.{Structure}
use Rattle.vtl_tree.specs.Names.{is_among}
use Rattle.vtl_tree.specs.Columns.{identifiers_of, place_of, places_in}
use Rattle.vtl_meaning.specs.Groups.{places_named}
use Rattle.vtl_meaning.specs.Windows.{identifier_places, key_in, keys_in, point_cmp}
use Rattle.vtl_tree.specs.declared.calls.OrderKey.{OrderKey}
use Rattle.vtl_tree.specs.declared.calls.Window.{Window}
use Rattle.sql_meaning.specs.Windows.{place_within, told_apart}
use Rattle.vtl_meaning.proofs.Lists as lists
use Rattle.vtl_meaning.proofs.Places.{key_cells, key_within, same_name-is}
use Rattle.groups_to_sql.specs.Windowed.{is_listed, key_names}

-- ---- comparisons

regrouped : (s t u : Ordering) → ordering_then (ordering_then s t) u ≡ ordering_then s (ordering_then t u)
regrouped Less t u = refl
regrouped Equal t u = refl
regrouped Greater t u = refl

rising_cells : (places : List ℕ) (q r : Row) → by_keys (map rising places) q r ≡ row_cmp (cells_at places q) (cells_at places r)
rising_cells [] q r = refl
rising_cells (i ∷ is) q r = ap (ordering_then (cell_cmp (column_of i q) (column_of i r))) (rising_cells is q r)

-- whole rows compare by their first cells, and then by all
first_of_all : (n : ℕ) (q r : Row) → ordering_then (row_cmp (take n q) (take n r)) (row_cmp q r) ≡ row_cmp q r
first_of_all zero q r = refl
first_of_all (suc n) [] [] = refl
first_of_all (suc n) [] (y ∷ r) = refl
first_of_all (suc n) (x ∷ q) [] = refl
first_of_all (suc n) (x ∷ q) (y ∷ r) = go (cell_cmp x y) (first_of_all n q r)
  where
    go : (o : Ordering) → ordering_then (row_cmp (take n q) (take n r)) (row_cmp q r) ≡ row_cmp q r → ordering_then (ordering_then o (row_cmp (take n q) (take n r))) (ordering_then o (row_cmp q r)) ≡ ordering_then o (row_cmp q r)
    go Less ih = refl
    go Equal ih = ih
    go Greater ih = refl

pub own_tie : (o : Ordering) → o ≡ ordering_reverse o → o ≡ Equal
own_tie Less e = cc
own_tie Equal e = refl
own_tie Greater e = cc

cell_ties : (x : Cell) → cell_cmp x x ≡ Equal
cell_ties x = own_tie (cell_cmp x x) (cell_cmp_total.antisymm x x)

key_ties : (k : Key) (q r : Row) → key_cmp k q r ≡ Equal → cell_cmp (column_of k.place q) (column_of k.place r) ≡ Equal
key_ties k q r e = go k.falling e
  where
    go : (f : Bool) → cond f (flip_args (on (column_of k.place) cell_cmp)) (on (column_of k.place) cell_cmp) q r ≡ Equal → cell_cmp (column_of k.place q) (column_of k.place r) ≡ Equal
    go true h = cell_cmp_total.antisymm (column_of k.place q) (column_of k.place r) ∙ ap ordering_reverse h
    go false h = h

-- ---- counting

abbrev bit : Bool → ℕ
bit b = cond b 1 0

counted : (t : Row → Bool) (x : Row) (xs : List Row) → count_by t (x ∷ xs) ≡ bit (t x) + count_by t xs
counted t x xs = sym (length-filter t (x ∷ xs)) ∙ go (t x) ∙ ap (λ n. bit (t x) + n) (length-filter t xs)
  where
    go : (b : Bool) → length (cond b (x ∷ filter t xs) (filter t xs)) ≡ bit b + length (filter t xs)
    go true = omega arith
    go false = omega arith

-- rows that are the same as one are all kept or none
count_kept : (f : Row → Bool) (r : Row) (d : List Row) → f r ≡ true → count_by (same_row r) (filter f d) ≡ count_by (same_row r) d
count_kept f r [] h = refl
count_kept f r (q ∷ d) h = go (f q) refl (count_kept f r d h) ∙ sym (counted (same_row r) q d)
  where
    apart : f q ≡ false → (b : Bool) → same_row r q ≡ b → bit (same_row r q) ≡ 0
    apart e true s = absurd (true≢false (sym h ∙ ap f (same_row-is r q s) ∙ e))
    apart e false s = ap bit s

    go : (b : Bool) → f q ≡ b → count_by (same_row r) (filter f d) ≡ count_by (same_row r) d → count_by (same_row r) (cond b (q ∷ filter f d) (filter f d)) ≡ bit (same_row r q) + count_by (same_row r) d
    go true e ih = counted (same_row r) q (filter f d) ∙ ap (λ n. bit (same_row r q) + n) ih
    go false e ih = let none = apart e (same_row r q) refl in omega (arith, ih, none)

-- ---- rows told apart

-- a row of a list that has no other like it
abbrev pub IsAlone : List Row → Row × ℕ → Type 0
IsAlone d x = (x.1 ≡ 0) × (count_by (same_row x.0) d ≡ 1)

pub told_all : (P : Row → Type 0) (d : List Row) → AllByRecursion P d → AllByRecursion (λ x. P x.0) (told_apart d)
told_all P [] all = tt
told_all P (r ∷ d) all = (all.0, told_all P d all.1)

none_same : (r : Row) (d : List Row) → AllByRecursion (λ q. same_row r q ≡ false) d → count_by (same_row r) d ≡ 0
none_same r [] all = refl
none_same r (q ∷ d) all = counted (same_row r) q d ∙ (λ i. bit (all.0 i) + none_same r d all.1 i)

pub told_alone : (d : List Row) → all_apart same_row d ≡ true → AllByRecursion (IsAlone d) (told_apart d)
told_alone [] e = tt
told_alone (r ∷ d) e =
    let parts = apart_parts same_row r d e in
    let none = none_same r d parts.0 in
    ((none, counted (same_row r) r d ∙ (λ i. bit (same_row-refl r i) + none i)), behind (told_apart d) (told_alone d parts.1) (told_all (λ q. same_row r q ≡ false) d parts.0))
  where
    behind : (xs : List (Row × ℕ)) → AllByRecursion (IsAlone d) xs → AllByRecursion (λ x. same_row r x.0 ≡ false) xs → AllByRecursion (IsAlone (r ∷ d)) xs
    behind [] h i = tt
    behind (x ∷ xs) h i = ((h.0.0, counted (same_row x.0) r d ∙ (λ j. bit ((same_row-sym x.0 r ∙ i.0) j) + h.0.1 j)), behind xs h.1 i.1)

-- ---- the order of a partition

module _ (xs : List Component) (w : Window) (q r : Row) where
  -- the rows have cells that tie in the column of a name
  abbrev Tie : List ℕ → Type 0
  Tie name = cell_cmp (column_of (place_of name xs) q) (column_of (place_of name xs) r) ≡ Equal

  tie_agreed : (name : List ℕ) (ns : List (List ℕ)) → cells_at (places_named ns xs) q ≡ cells_at (places_named ns xs) r → is_among name ns ≡ true → Tie name
  tie_agreed name [] e h = cc
  tie_agreed name (n ∷ ns) e h = go (same_name n name) refl h (tie_agreed name ns rest)
    where
      first : column_of (place_of n xs) q ≡ column_of (place_of n xs) r
      first = cc

      rest : cells_at (places_named ns xs) q ≡ cells_at (places_named ns xs) r
      rest = cc

      go : (b : Bool) → same_name n name ≡ b → (b || is_among name ns) ≡ true → (is_among name ns ≡ true → Tie name) → Tie name
      go true i t ih = subst Tie (same_name-is n name i) (subst (λ v. cell_cmp (column_of (place_of n xs) q) v ≡ Equal) first (cell_ties (column_of (place_of n xs) q)))
      go false i t ih = ih t

  tie_ordered : (name : List ℕ) (ks : List OrderKey) → by_keys (map (key_in xs) ks) q r ≡ Equal → is_among name (key_names ks) ≡ true → Tie name
  tie_ordered name [] e h = cc
  tie_ordered name (k ∷ ks) e h = go (same_name k.component name) refl h (tie_ordered name ks parts.1)
    where
      parts : (key_cmp (key_in xs k) q r ≡ Equal) × (by_keys (map (key_in xs) ks) q r ≡ Equal)
      parts = then_ties (key_cmp (key_in xs k) q r) (by_keys (map (key_in xs) ks) q r) e

      go : (b : Bool) → same_name k.component name ≡ b → (b || is_among name (key_names ks)) ≡ true → (is_among name (key_names ks) ≡ true → Tie name) → Tie name
      go true i t ih = subst Tie (same_name-is k.component name i) (key_ties (key_in xs k) q r parts.0)
      go false i t ih = ih t

  module _ (agreed : cells_at (places_named w.partition xs) q ≡ cells_at (places_named w.partition xs) r) (tied : by_keys (keys_in xs w) q r ≡ Equal) where
    tie_listed : (z : Component) → is_listed w z ≡ true → Tie z.name
    tie_listed z h = go (is_among z.name w.partition) refl h
      where
        go : (b : Bool) → is_among z.name w.partition ≡ b → (b || is_among z.name (key_names w.order)) ≡ true → Tie z.name
        go true i t = tie_agreed z.name w.partition agreed i
        go false i t = tie_ordered z.name w.order tied t

    -- identifiers that are listed tie already
    unlisted_order : (zs : List Component) → by_keys (map rising (places_in xs (filter (λ x. not (is_listed w x)) zs))) q r ≡ by_keys (map rising (places_in xs zs)) q r
    unlisted_order [] = refl
    unlisted_order (z ∷ zs) = go (is_listed w z) refl (unlisted_order zs)
      where
        kept : List Component
        kept = filter (λ x. not (is_listed w x)) zs

        go : (b : Bool) → is_listed w z ≡ b → by_keys (map rising (places_in xs (filter (λ x. not (is_listed w x)) zs))) q r ≡ by_keys (map rising (places_in xs zs)) q r
            → by_keys (map rising (places_in xs (cond (not b) (z ∷ filter (λ x. not (is_listed w x)) zs) (filter (λ x. not (is_listed w x)) zs)))) q r ≡ by_keys (map rising (places_in xs (z ∷ zs))) q r
        go true i ih = ih ∙ sym (ap (λ o. ordering_then o (by_keys (map rising (places_in xs zs)) q r)) (tie_listed z i))
        go false i ih = ap (ordering_then (cell_cmp (column_of (place_of z.name xs) q) (column_of (place_of z.name xs) r))) ih

module _ (a : Structure) (formed : IsStructure a) (w : Window) (sees : Bool) where
  abbrev xs : List Component
  xs = columns_of a

  abbrev ids : List Component
  ids = identifiers_of a

  abbrev listed : List Key
  listed = keys_in xs w

  abbrev agreed : List ℕ
  agreed = places_named w.partition xs

  abbrev further : Bool → List Key
  further b = cond b (map rising (places_in xs (filter (λ x. not (is_listed w x)) ids))) []

  -- the keys in SQL
  abbrev pub keys_seen : List Key
  keys_seen = listed ++ further sees

  abbrev le : Row → Row → Bool
  le = le_by (point_cmp a w)

  abbrev le_seen : Row → Row → Bool
  le_seen = le_by (window_cmp keys_seen [])

  -- identifiers stand first in a row
  identifiers_first : (q r : Row) → is_point xs q ≡ true → is_point xs r ≡ true → ordering_then (by_keys (map rising (identifier_places a)) q r) (row_cmp q r) ≡ row_cmp q r
  identifiers_first q r h i =
      let first : (z : Row) → is_point xs z ≡ true → cells_at (identifier_places a) z ≡ take (key_width a) z = λ z j. key_cells a a z formed (refl, refl) (key_within a z j) in
      ap (λ o. ordering_then o (row_cmp q r)) (rising_cells (identifier_places a) q r ∙ (λ j. row_cmp (first q h j) (first r i j)))
      ∙ first_of_all (key_width a) q r

  same_cmp : (q r : Row) → is_point xs q ≡ true → is_point xs r ≡ true → cells_at agreed q ≡ cells_at agreed r → window_cmp keys_seen [] q r ≡ point_cmp a w q r
  same_cmp q r h i e =
      ap (λ ks. ordering_then (by_keys ks q r) (row_cmp q r)) (append-nil keys_seen)
      ∙ ap (λ o. ordering_then o (row_cmp q r)) (keys_append listed (further sees) q r)
      ∙ regrouped (by_keys listed q r) (by_keys (further sees) q r) (row_cmp q r)
      ∙ go (by_keys listed q r) refl
      ∙ sym (ap (λ o. ordering_then o (row_cmp q r)) (keys_append listed (map rising (identifier_places a)) q r) ∙ regrouped (by_keys listed q r) (by_keys (map rising (identifier_places a)) q r) (row_cmp q r))
    where
      tied : (b : Bool) → by_keys (keys_in (columns_of a) w) q r ≡ Equal → ordering_then (by_keys (further b) q r) (row_cmp q r) ≡ ordering_then (by_keys (map rising (identifier_places a)) q r) (row_cmp q r)
      tied true t = ap (λ o. ordering_then o (row_cmp q r)) (unlisted_order (columns_of a) w q r e t (identifiers_of a))
      tied false t = sym (identifiers_first q r h i)

      go : (o : Ordering) → by_keys (keys_in (columns_of a) w) q r ≡ o → ordering_then o (ordering_then (by_keys (further sees) q r) (row_cmp q r)) ≡ ordering_then o (ordering_then (by_keys (map rising (identifier_places a)) q r) (row_cmp q r))
      go Less t = refl
      go Equal t = tied sees t
      go Greater t = refl

  -- a point of the partition of another
  abbrev pub IsMember : Row → Row → Type 0
  IsMember r q = (is_point xs q ≡ true) × (cells_at agreed q ≡ cells_at agreed r)

  same_le : (r x y : Row) → IsMember r x → IsMember r y → le_seen x y ≡ le x y
  same_le r x y h i = ap (λ o. not (is_lt o)) (same_cmp y x i.0 h.0 (i.1 ∙ sym h.1))

  rises_too : (r : Row) (zs : List Row) → AllByRecursion (IsMember r) zs → Rises le_seen zs → Rises le zs
  rises_too r [] all h = tt
  rises_too r (z ∷ zs) all h = (go zs all.1 h.0, rises_too r zs all.1 h.1)
    where
      go : (us : List Row) → AllByRecursion (IsMember r) us → AllByRecursion (λ y. le_seen z y ≡ true) us → AllByRecursion (λ y. le z y ≡ true) us
      go [] i j = tt
      go (u ∷ us) i j = (sym (same_le r z u all.0 i.0) ∙ j.0, go us i.1 j.1)

  pub same_ordered : (r : Row) (partition : List Row) → AllByRecursion (IsMember r) partition → in_order keys_seen [] partition ≡ in_order listed (identifier_places a) partition
  same_ordered r partition all =
      let seen = window_order keys_seen [] in
      let perm = Perm-sym (Perm-sorted_by seen partition) in
      sorted_is (window_order listed (identifier_places a)) partition (in_order keys_seen [] partition) perm
      (rises_too r (in_order keys_seen [] partition) (AllByRecursion-Perm (IsMember r) perm all) (Rises-sorted_by seen partition))

  -- ---- places

  total : IsTotalOrder (point_cmp a w)
  total = then_total (by_keys_total (listed ++ map rising (identifier_places a))) row_cmp_total

  one_stands : (r q : Row) → IsMember r q → IsMember r r → bit (le_seen q r) ≡ bit (is_lt (point_cmp a w q r)) + bit (same_row r q)
  one_stands r q h i = ap bit (same_le r q r h i) ∙ ap (λ o. bit (not (is_lt o))) (total.antisymm r q) ∙ go (point_cmp a w q r) refl (same_row r q) refl
    where
      own : (o : Ordering) → point_cmp a w q r ≡ o → same_row r q ≡ true → o ≡ Equal
      own o e s = sym e ∙ ap (point_cmp a w q) (same_row-is r q s) ∙ own_tie (point_cmp a w q q) (total.antisymm q q)

      go : (o : Ordering) → point_cmp a w q r ≡ o → (b : Bool) → same_row r q ≡ b → bit (not (is_lt (ordering_reverse o))) ≡ bit (is_lt o) + bit b
      go Less e true s = let no : Less ≡ Equal = own Less e s in cc
      go Less e false s = refl
      go Equal e true s = refl
      go Equal e false s =
          let same : q ≡ r = row_cmp-ties q r (then_ties (by_keys (keys_in (columns_of a) w ++ map rising (identifier_places a)) q r) (row_cmp q r) e).1 in
          absurd (true≢false (sym (same_row-refl r) ∙ ap (same_row r) (sym same) ∙ s))
      go Greater e true s = let no : Greater ≡ Equal = own Greater e s in cc
      go Greater e false s = refl

  counts : (r : Row) (partition : List Row) → AllByRecursion (IsMember r) partition → IsMember r r → count_by (λ q. le_seen q r) partition ≡ count_by (λ q. is_lt (point_cmp a w q r)) partition + count_by (same_row r) partition
  counts r [] all h = refl
  counts r (q ∷ partition) all h =
      let up = counted (λ z. le_seen z r) q partition in
      let below = counted (λ z. is_lt (point_cmp a w z r)) q partition in
      let same = counted (same_row r) q partition in
      let one = one_stands r q all.0 h in
      let ih = counts r partition all.1 h in
      omega (arith, up, below, same, one, ih)

  -- the points that agree with one
  abbrev pub partition_in : List Row → Row → List Row
  partition_in d r = filter (λ q. same_row (cells_at agreed q) (cells_at agreed r)) d

  pub members : (d : List Row) (r : Row) → AllByRecursion (λ q. is_point xs q ≡ true) d → AllByRecursion (IsMember r) (partition_in d r)
  members d r all =
      let test : Row → Bool = λ q. same_row (cells_at agreed q) (cells_at agreed r) in
      lists.joined (λ q. is_point xs q ≡ true) (λ q. test q ≡ true) (IsMember r) (partition_in d r) (λ q h i. (h, same_row-is (cells_at agreed q) (cells_at agreed r) i))
      (AllByRecursion-filter (λ q. is_point xs q ≡ true) test d all) (all_filtered test d)

  pub same_place : (d : List Row) (x : Row × ℕ) → AllByRecursion (λ q. is_point xs q ≡ true) d → is_point xs x.0 ≡ true → IsAlone d x → place_within keys_seen (partition_in d x.0) x ≡ count_by (λ q. is_lt (point_cmp a w q x.0)) (partition_in d x.0)
  same_place d x all h alone =
      let r = x.0 in
      let each = counts r (partition_in d r) (members d r all) (h, refl) in
      let one = count_kept (λ q. same_row (cells_at agreed q) (cells_at agreed r)) r d (same_row-refl (cells_at agreed r)) ∙ alone.1 in
      let none = alone.0 in
      omega (arith, each, one, none)
