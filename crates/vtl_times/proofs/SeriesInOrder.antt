-- The stretches of points in order, cut by the frequencies of their times, are the series in the order of their times.
use Rattle.std.proofs.Common.{◌≡◌, ℕ, zero, suc, ◌+◌, ◌-◌, ◌<◌, ◌≤◌, ◌==◌, ◌&&◌, ◌||◌, nat_le, Bool, true, false, not, List, [], ◌∷◌, ◌++◌, length, map, take, drop, get_or, None, Some, refl, sym, ap, ◌∙◌, subst, arith, append-nil, true≢false, if◌then◌else◌}
use Rattle.std.specs.Prelude.{filter, find}
use Rattle.std.specs.List.{AllByRecursion, concat, flat_map, list_all, list_any, range_with_len}
use Rattle.std.specs.Ordering.{is_le, is_lt}
use Rattle.std.proofs.lemmas.Bool.{eq-eqb, eqb-true}
use Rattle.std.proofs.lemmas.Bool.Decides.{nat_tests}
use Rattle.std.proofs.lemmas.List.{get_or-map, get_or-take, length-map, length-take-le}
use Rattle.std.proofs.lemmas.List.Folds.{list_any-append, list_any_at}
use Rattle.std.proofs.lemmas.List.FromFn.{get_or-range_with_len, length-range_with_len}
use Rattle.std.proofs.lemmas.List.Sorted.{list_any-IsPermutation}
use Rattle.std.proofs.lemmas.Map.Views.{any-filter_same}
use Rattle.vtl_lists.specs.Apart.{all_apart}
use Rattle.vtl_lists.specs.Perm.{Perm, chain}
use Rattle.vtl_lists.proofs.Aparts.{all_apart-Perm, all_apart-filter}
use Rattle.vtl_lists.proofs.Perms.{AllByRecursion-Perm, Perm-filter, Perm-from_IsPermutation, Perm-map, Perm-same, Perm-sym}
use Rattle.vtl_lists.proofs.Sorts.{AllByRecursion-filter, Rises-filter}
use Rattle.vtl_cell.specs.Order.{cell_cmp}
use Rattle.vtl_cell.specs.Row.{Row, same_key, same_row}
use Rattle.vtl_cell.specs.Sorted.{rising}
use Rattle.vtl_cell.specs.declared.cell.Cell.{Cell}
use Rattle.vtl_cell.proofs.Rows.{same_key-sym}
use Rattle.std.specs.declared.cmp.Ordering.TheVariants.{Less}
use Rattle.vtl_lists.proofs.Alls.{all_append, all_filtered, all_get, all_kept}
use Rattle.vtl_lists.proofs.Filters.{map-filter}
use Rattle.vtl_lists.proofs.Tests.{or_false, or_true}
use Rattle.vtl_frames.specs.Stretches.{stretches_of}
use Rattle.vtl_frames.proofs.ListLemmas.{rises_get}
use Rattle.vtl_frames.proofs.OrderLemmas.{at_most}
use Rattle.vtl_frames.proofs.PartitionLemmas.{by_order, members, run_is, within}
use Rattle.vtl_frames.proofs.RunLemmas.{IsOne, joined, one_found}
use Rattle.vtl_frames.proofs.StretchLemmas.{IsStretch}
use Rattle.vtl_rows.specs.Keys.{agree, key_of}
use Rattle.vtl_rows.specs.Places.{IsOrderOf, row_at}
use Rattle.vtl_rows.specs.Tables.{cells_at}
use Rattle.vtl_rows.specs.declared.column.SortKey.{SortKey}
use Rattle.vtl_rows.proofs.Placed.{all_places}
use Rattle.vtl_rows.proofs.AllColumns.{then_equal}
use Rattle.vtl_series.specs.Series.{frequencies}
use Rattle.vtl_time.specs.Periods.{frequency_rank}
use Rattle.vtl_time.specs.declared.periods.Frequency.{Frequency}
use Rattle.vtl_time.specs.declared.periods.Frequency.TheVariants.{Annual, Semester, Quarter, Month}
use Rattle.vtl_tree.specs.Columns.{place_of, places_in}
use Rattle.vtl_tree.specs.DataSet.{IsDataSet, is_point}
use Rattle.vtl_tree.specs.Environment.{DataSet}
use Rattle.vtl_tree.specs.Structure.{columns_of, key_width}
use Rattle.vtl_tree.specs.declared.structure.Component.{Component}
use Rattle.vtl_tree.specs.declared.structure.Structure.{Structure}
use Rattle.vtl_meaning.proofs.Places.{all_of_map}
use Rattle.vtl_timing.specs.Times.{HasTime, before, in_one_series, other_identifiers, previous, series_of, time_of, time_place, up_to}
use Rattle.vtl_timing.proofs.FlowOrders.{cells_are_values, keys_same, previous_same}
use Rattle.vtl_times.specs.InOrder.{AreSeries, IsSeries, group_keys, has_number, is_at, of_frequency, one_if_some, part_of, parts_of, point_at, point_before, rising_key, time_keys}
use Rattle.vtl_times.proofs.RisingTimes.{apart_at, before_is, behind_is, filter_both, filter_front, from_is, is_in, last_found, less, same_in, time_is, up_to_is}

-- ---- lists
all_flat : {X Y : Type 0} (K : X → Type 0) (P : Y → Type 0) (g : X → List Y) → ((x : X) → K x → AllByRecursion P (g x)) → (xs : List X) → AllByRecursion K xs → AllByRecursion P (flat_map g xs)
all_flat K P g f [] all = tt
all_flat K P g f (x ∷ xs) all = all_append P (g x) (flat_map g xs) (f x all.0) (all_flat K P g f xs all.1)

all_at : {X : Type 0} (P : X → Type 0) (xs : List X) (d : X) → ((k : ℕ) → k < length xs → P (get_or xs k d)) → AllByRecursion P xs
all_at P [] d f = tt
all_at P (x ∷ xs) d f = (f 0 (omega arith), all_at P xs d (λ k h. f (suc k) (omega (arith, h))))

flat_any : {X Y : Type 0} (test : Y → Bool) (g : X → List Y) (xs : List X) (i : ℕ) (d : X) → i < length xs → list_any test (g (get_or xs i d)) ≡ true → list_any test (flat_map g xs) ≡ true
flat_any test g [] i d h e = absurd (omega (arith, h))
flat_any test g (x ∷ xs) zero d h e = list_any-append test (g x) (flat_map g xs) ∙ ap (λ b. b || list_any test (flat_map g xs)) e
flat_any test g (x ∷ xs) (suc i) d h e = list_any-append test (g x) (flat_map g xs) ∙ ap (λ b. list_any test (g x) || b) (flat_any test g xs i d (omega (arith, h)) e) ∙ or_true (list_any test (g x))

-- ---- numbers in lists of lists
found_in : (k : ℕ) (g : List ℕ → List (List ℕ)) → ((run : List ℕ) → has_number k run ≡ true → list_any (has_number k) (g run) ≡ true) → (runs : List (List ℕ)) → has_number k (concat runs) ≡ true → list_any (has_number k) (flat_map g runs) ≡ true
found_in k g each [] e = e
found_in k g each (run ∷ runs) e = list_any-append (has_number k) (g run) (flat_map g runs) ∙ go (has_number k run) refl (sym (list_any-append (λ j. j == k) run (concat runs)) ∙ e) (λ f. found_in k g each runs f)
  where
    go : (b : Bool) → has_number k run ≡ b → (b || has_number k (concat runs)) ≡ true → (has_number k (concat runs) ≡ true → list_any (has_number k) (flat_map g runs) ≡ true) → (list_any (has_number k) (g run) || list_any (has_number k) (flat_map g runs)) ≡ true
    go true t f later = ap (λ b. b || list_any (has_number k) (flat_map g runs)) (each run t)
    go false t f later = ap (λ b. list_any (has_number k) (g run) || b) (later f) ∙ or_true (list_any (has_number k) (g run))

one_some : (k : ℕ) (s : List ℕ) → list_any (has_number k) (one_if_some s) ≡ has_number k s
one_some k [] = refl
one_some k (j ∷ s) = or_false (has_number k (j ∷ s))

all_one : (P : List ℕ → Type 0) (s : List ℕ) → P s → AllByRecursion P (one_if_some s)
all_one P [] h = tt
all_one P (j ∷ s) h = (h, tt)

at_rank : (f : Frequency) → get_or frequencies (frequency_rank f) Annual ≡ f
at_rank Annual = refl
at_rank Semester = refl
at_rank Quarter = refl
at_rank Month = refl

rank_within : (f : Frequency) → frequency_rank f < length frequencies
rank_within Annual = omega arith
rank_within Semester = omega arith
rank_within Quarter = omega arith
rank_within Month = omega arith

-- ---- points in the order of the other identifiers and the time
module _ (d : DataSet) (timed : HasTime d.structure) (held : IsDataSet d.structure d.points) (places : List ℕ) (order : IsOrderOf (time_keys d.structure) d.points places) where
  abbrev a : Structure
  a = d.structure

  abbrev rows : List Row
  rows = d.points

  abbrev xs : List Component
  xs = columns_of d.structure

  abbrev others : List Component
  others = other_identifiers d.structure

  abbrev keys : List SortKey
  keys = group_keys d.structure

  abbrev last : List SortKey
  last = rising_key (time_place d.structure) ∷ []

  abbrev agreed : List ℕ
  agreed = places_in (columns_of d.structure) (other_identifiers d.structure)

  named : (ys : List Component) → map key_of (map (λ y. rising_key (place_of y.name (columns_of d.structure))) ys) ≡ map rising (places_in (columns_of d.structure) ys)
  named [] = refl
  named (y ∷ ys) = ap (λ l. rising (place_of y.name xs) ∷ l) (named ys)

  whole : IsOrderOf ((keys ++ last) ++ []) rows places
  whole = subst (λ ks. IsOrderOf ks rows places) (sym (append-nil (time_keys a))) order

  -- the same points in order
  abbrev sorted : DataSet
  sorted = record { structure = d.structure; points = map (row_at d.points) places }

  sorted_perm : Perm rows sorted.points
  sorted_perm = Perm-sym (subst (Perm sorted.points) (all_places rows) (Perm-map (row_at rows) (Perm-sym (Perm-from_IsPermutation (range_with_len 0 (length rows)) places order.all))))

  abbrev IsRow : Row → Type 0
  IsRow q = is_point (columns_of d.structure) q ≡ true

  -- points of one series by the places of their columns
  tests : (f : Frequency) (r : Row) → is_at (time_place a) f r ≡ true → in_one_series a r ≡ (λ q. agree agreed q r && is_at (time_place a) f q)
  tests f r e = λ i q. same_row (sym (cells_are_values xs others q) i) (sym (cells_are_values xs others r) i) && same_in f (time_of a q) (time_of a r) e i

  -- ---- those of one stretch and one frequency
  module _ (start end : ℕ) (cut : IsStretch (group_keys d.structure) d.points places start end) (f : Frequency) where
    abbrev run : List ℕ
    run = take (end - start) (drop start places)

    abbrev s : List ℕ
    s = of_frequency (time_place d.structure) f d.points (take (end - start) (drop start places))

    abbrev x : ℕ → Row
    x i = row_at d.points (get_or s i 0)

    abbrev IsMember : ℕ → Type 0
    IsMember k = cells_at agreed (row_at d.points k) ≡ cells_at agreed (row_at d.points (get_or places start 0))

    member_at : (i : ℕ) → i < length s → IsMember (get_or s i 0)
    member_at i h = all_get IsMember s i 0 h (AllByRecursion-filter IsMember (λ k. is_at (time_place a) f (row_at rows k)) run (members agreed keys (named others) last [] rows places whole start end cut))

    dated_at : (i : ℕ) → i < length s → is_at (time_place a) f (x i) ≡ true
    dated_at i h = all_get (λ k. is_at (time_place a) f (row_at rows k) ≡ true) s i 0 h (all_filtered (λ k. is_at (time_place a) f (row_at rows k)) run)

    -- they are the series of each of them
    series_is : (i : ℕ) → i < length s → series_of sorted (x i) ≡ map (row_at rows) s
    series_is i h =
        let r = x i in
        let other : Row → Bool = λ q. agree agreed q r in
        let dated : Row → Bool = is_at (time_place a) f in
        ap (λ t. filter t sorted.points) (tests f r (dated_at i h))
        ∙ filter_both other dated sorted.points
        ∙ ap (filter dated) (sym (map-filter (row_at rows) other places) ∙ ap (map (row_at rows)) (run_is agreed keys (named others) last [] rows places whole start end cut r (member_at i h)))
        ∙ sym (map-filter (row_at rows) dated run)

    abbrev IsIn : Row → Row → Type 0
    IsIn r q = (is_point (columns_of d.structure) q ≡ true) × (in_one_series d.structure r q ≡ true)

    inside : (i k : ℕ) → i < length s → k < length s → IsIn (x i) (x k)
    inside i k h l =
        all_get (λ j. IsIn (x i) (row_at rows j)) s k 0 l (all_of_map (row_at rows) (IsIn (x i)) s
        (subst (AllByRecursion (IsIn (x i))) (series_is i h) (all_kept IsRow (in_one_series a (x i)) sorted.points (AllByRecursion-Perm IsRow sorted_perm held.typed))))

    apart : (i : ℕ) → i < length s → all_apart (same_key (key_width a)) (map (row_at rows) s) ≡ true
    apart i h =
        ap (all_apart (same_key (key_width a))) (sym (series_is i h))
        ∙ all_apart-filter (same_key (key_width a)) (in_one_series a (x i)) sorted.points (sym (all_apart-Perm (same_key (key_width a)) (same_key-sym (key_width a)) sorted_perm) ∙ held.distinct)

    -- and their times rise
    rises : (j k : ℕ) → j < k → k < length s → cell_cmp (time_of a (x j)) (time_of a (x k)) ≡ Less
    rises j k h l =
        let in_order = Rises-filter (at_most rows last) (λ m. is_at (time_place a) f (row_at rows m)) run (by_order agreed keys (named others) last [] rows places whole start end cut) in
        let le = rises_get (at_most rows last) s j k 0 h l in_order in
        let one = inside j j (omega (arith, h, l)) (omega (arith, h, l)) in
        let two = inside j k (omega (arith, h, l)) l in
        less (time_of a (x j)) (time_of a (x k)) (ap (λ o. not (is_lt o)) (sym (then_equal (cell_cmp (time_of a (x k)) (time_of a (x j))))) ∙ le)
        (λ e. true≢false (sym (keys_same a held.well_formed timed (x j) (x j) (x k) one.0 two.0 one.1 two.1 e) ∙ apart_at (same_key (key_width a)) (row_at rows) s j k h l (apart j (omega (arith, h, l)))))

    abbrev at : ℕ → Cell
    at i = time_of d.structure (x i)

    up_to_place : (i : ℕ) → i < length s → Perm (up_to d (x i)) (map (row_at rows) (take (i + 1) s))
    up_to_place i h =
        let no_later : Row → Bool = λ q. is_le (cell_cmp (time_of a q) (time_of a (x i))) in
        let kept = filter_front (λ k. no_later (row_at rows k)) s (i + 1) 0 (omega (arith, h)) (λ k l. up_to_is at (length s) rises i k (omega (arith, l)) h) (λ k l m. behind_is at (length s) rises i k (omega (arith, l)) m) in
        chain (Perm-filter no_later (Perm-filter (in_one_series a (x i)) sorted_perm))
        (Perm-same (up_to sorted (x i)) (map (row_at rows) (take (i + 1) s)) (ap (filter no_later) (series_is i h) ∙ sym (map-filter (row_at rows) no_later s) ∙ ap (map (row_at rows)) kept))

    before_place : (i : ℕ) → i < length s → before sorted (x i) ≡ map (row_at rows) (take i s)
    before_place i h =
        let earlier : Row → Bool = λ q. is_lt (cell_cmp (time_of a q) (time_of a (x i))) in
        let kept = filter_front (λ k. earlier (row_at rows k)) s i 0 (omega (arith, h)) (λ k l. before_is at (length s) rises i k l h) (λ k l m. from_is at (length s) rises i k l m) in
        ap (filter earlier) (series_is i h) ∙ sym (map-filter (row_at rows) earlier s) ∙ ap (map (row_at rows)) kept

    abbrev no_later : Row → Row → Bool
    no_later z q = is_le (cell_cmp (time_of d.structure z) (time_of d.structure q))

    last_is : (i : ℕ) → i < length s → find (λ q. list_all (λ z. no_later z q) (map (row_at rows) (take i s))) (map (row_at rows) (take i s)) ≡ point_before d s i
    last_is zero h = refl
    last_is (suc m) h =
        let front = map (row_at rows) (take (suc m) s) in
        let many : length front ≡ m + 1 = length-map (take (suc m) s) (row_at rows) ∙ length-take-le (suc m) s (omega (arith, h)) ∙ omega arith in
        let there : (k : ℕ) → k ≤ m → get_or front k [] ≡ x k
        = λ k l. get_or-map (row_at rows) (take (suc m) s) k 0 [] (omega (arith, l, length-take-le (suc m) s (omega (arith, h)))) ∙ ap (row_at rows) (get_or-take (suc m) s k 0 (omega (arith, l))) in
        let below : nat_le 1 (suc m) ≡ true = grind (arith, nat_tests) in
        let back : suc m - 1 ≡ m = omega arith in
        last_found no_later front m [] many
        (λ k l. (λ j. no_later (there k l j) (there m (omega arith) j)) ∙ up_to_is at (length s) rises m k l (omega (arith, h)))
        (λ k l. (λ j. no_later (there m (omega arith) j) (there k (omega (arith, l)) j)) ∙ behind_is at (length s) rises k m l (omega (arith, h)))
        ∙ ap Some (there m (omega arith) ∙ ap x (sym back)) ∙ ap (λ b. if b then Some (point_at d s (suc m - 1)) else None) (sym below)

    previous_is : (i : ℕ) → i < length s → previous d (x i) ≡ point_before d s i
    previous_is i h =
        previous_same a held.well_formed timed rows sorted.points held sorted_perm (x i)
        ∙ ap (λ ps. find (λ q. list_all (λ z. no_later z q) ps) ps) (before_place i h)
        ∙ last_is i h

    is_series : IsSeries d s
    is_series = record {
      within = AllByRecursion-filter (λ k. k < length rows) (λ k. is_at (time_place a) f (row_at rows k)) run (within agreed keys (named others) last [] rows places whole start end cut);
      up_to = up_to_place;
      previous = previous_is;
    }

  -- ---- all of them
  each_part : (l : List ℕ) → IsOne keys rows places l → AllByRecursion (IsSeries d) (parts_of (time_place a) rows l)
  each_part l one =
      subst (λ ks. AllByRecursion (IsSeries d) (parts_of (time_place a) rows ks)) (sym one.is)
      (all_flat (λ f. Unit {0}) (IsSeries d) (part_of (time_place a) rows (take (one.end - one.start) (drop one.start places)))
      (λ f u. all_one (IsSeries d) (of_frequency (time_place a) f rows (take (one.end - one.start) (drop one.start places))) (is_series one.start one.end one.cut f)) frequencies (tt, (tt, (tt, (tt, tt)))))

  in_parts : (k : ℕ) (f : Frequency) → is_at (time_place a) f (row_at rows k) ≡ true → (ks : List ℕ) → has_number k ks ≡ true → list_any (has_number k) (parts_of (time_place a) rows ks) ≡ true
  in_parts k f e ks t =
      let tp = time_place a in
      let here : has_number k (of_frequency tp f rows ks) ≡ true
      = any-filter_same (λ j. j == k) (λ j. is_at tp f (row_at rows j)) true (λ j same. ap (λ m. is_at tp f (row_at rows m)) (eqb-true j k same) ∙ e) ks ∙ ap (λ b. true && b) t in
      flat_any (has_number k) (part_of tp rows ks) frequencies (frequency_rank f) Annual (rank_within f)
      (ap (λ g. list_any (has_number k) (part_of tp rows ks g)) (at_rank f) ∙ one_some k (of_frequency tp f rows ks) ∙ here)

  in_places : (k : ℕ) → k < length rows → has_number k places ≡ true
  in_places k h =
      let many = length-range_with_len 0 (length rows) in
      let none : 0 + k ≡ k = omega arith in
      let at : get_or (range_with_len 0 (length rows)) k 0 ≡ k = get_or-range_with_len 0 (length rows) k 0 h ∙ none in
      sym (list_any-IsPermutation (λ j. j == k) (range_with_len 0 (length rows)) places order.all)
      ∙ list_any_at (λ j. j == k) (range_with_len 0 (length rows)) k 0 (omega (arith, many, h)) (eq-eqb (get_or (range_with_len 0 (length rows)) k 0) k at)

  pub series_are : AreSeries d (flat_map (parts_of (time_place d.structure) d.points) (stretches_of (group_keys d.structure) d.points places))
  series_are =
      let stretches = stretches_of keys rows places in
      record {
        each = all_flat (IsOne keys rows places) (IsSeries d) (parts_of (time_place a) rows) each_part stretches (all_at (IsOne keys rows places) stretches [] (λ i h. one_found keys rows places stretches i refl h));
        all = λ k h.
            let dated = time_is a timed (row_at rows k) (all_get IsRow rows k [] h held.typed) in
            let own : is_at (time_place a) dated.0.frequency (row_at rows k) ≡ true = ap (is_in dated.0.frequency) dated.1 ∙ eq-eqb (frequency_rank dated.0.frequency) (frequency_rank dated.0.frequency) refl in
            found_in k (parts_of (time_place a) rows) (in_parts k dated.0.frequency own) stretches (ap (has_number k) (joined keys rows places) ∙ in_places k h);
      }
