-- The keys of a window, and values that are put back at their rows.
use Rattle.std.proofs.Common.{All, ◌≡◌, ◌≢◌, ⊎_elim, Some, set, ℕ, zero, suc, ◌+◌, ◌<◌, ◌≤◌, ◌⊎◌, inl, inr, List, [], ◌∷◌, ◌++◌, length, drop, take, get_or, map, refl, sym, ap, ◌∙◌, arith, subst, append_assoc, Ok}
use Rattle.std.specs.Prelude.{IsPermutation, Option}
use Rattle.std.specs.List.{AllByRecursion, range_with_len}
use Rattle.std.proofs.lemmas.List.{drop_all, get_or-set_other, get_or-set_same, get_or_default, length-append, length-map, length-set, length_push, same_from_push, take_more, drop_more, map-append, take_all}
use Rattle.std.proofs.lemmas.List.Elements.{All-from_recursion}
use Rattle.std.proofs.lemmas.List.FromFn.{fill_by_all, get_or-range_with_len, length-range_with_len, map-range_with_len_more}
use Rattle.std.proofs.lemmas.List.Sorted.{All-permutation, Contains-permutation}
use Rattle.std.proofs.lemmas.Bool.{cases_eq, cases_lt}
use Rattle.vtl_lists.proofs.Alls.{all_append}
use Rattle.vtl_cell.specs.Sorted.{rising}
use Rattle.vtl_cell.specs.declared.cell.Cell.TheVariants as cells
use Rattle.vtl_rows.specs.Keys.{key_of}
use Rattle.sql_tree.specs.Trees.{Text}
use Rattle.sql_tree.specs.declared.parts.Column.{Column}
use Rattle.sql_tree.specs.declared.windows.Over.{Over}
use Rattle.sql_tree.specs.declared.windows.WindowKey.{WindowKey}
use Rattle.sql_tree.specs.declared.word_groups.Direction.{Direction}
use Rattle.sql_tree.specs.declared.word_groups.Direction.TheVariants as direction
use Rattle.sql_check_parts.specs.Scopes.{Columns, Scope, row_of}
use Rattle.sql_meaning.specs.Tables.{Base}
use Rattle.sql_meaning.specs.Values.{at_rows, place_in, View}
use Rattle.sql_meaning.specs.Windows.{is_falling, key_of as window_key, told_apart, window_value}
use Rattle.sql_from.specs.Columns.{columns_below, line_feed, source_columns}
use Rattle.vtl_cell.specs.Outcome.{Outcome}
use Rattle.vtl_cell.specs.Row.{Row}
use Rattle.vtl_cell.specs.declared.cell.Cell.{Cell}
use Rattle.vtl_rows.specs.Places.{row_at}
use Rattle.vtl_rows.specs.declared.column.SortKey.{SortKey}
use Rattle.sql_tree.specs.declared.windows.Window.{Window}
use Rattle.sql_tree.specs.declared.windows.WindowCall.{WindowCall}
use Rattle.sql_tree.specs.declared.windows.WindowCall.TheVariants as call
use Rattle.sql_tree.specs.declared.word_groups.ValueFunction.TheVariants as value
use Rattle.sql_window.specs.Keys.{falls, order_key, partition_key, rising_key, tie_breakers}
use Rattle.sql_window.specs.Runs.{behind, window_at}

-- ---- keys
pub columns_more : (old now : List SortKey) (i : ℕ) → now ≡ old ++ map rising_key (range_with_len 0 i) → now ++ rising_key i ∷ [] ≡ old ++ map rising_key (range_with_len 0 (i + 1))
columns_more old now i e =
    let same : 0 + i ≡ i = omega arith in
    ap (λ l. l ++ rising_key i ∷ []) e ∙ append_assoc old (map rising_key (range_with_len 0 i)) (rising_key i ∷ []) ∙ ap (λ l. old ++ l) (sym (map-range_with_len_more rising_key 0 i i same))

-- ---- values put back
-- all values, those that are left, and those that are put back, which are the ones behind
pub record IsPut (places : List ℕ) (all values back : List (Outcome Cell)) : Type 0 where
  pub long : length back ≡ length places
  pub few : length values ≤ length places
  pub front : (f : ℕ → Outcome Cell) → all ≡ map f places → values ≡ map f (take (length values) places)
  pub behind : (f : ℕ → Outcome Cell) → all ≡ map f places → (u : ℕ) → length values ≤ u → u < length places → get_or back (get_or places u 0) (Ok cells.Null) ≡ f (get_or places u 0)

pub put_none : (places : List ℕ) (all back : List (Outcome Cell)) → length all ≡ length places → length back ≡ length places → IsPut places all all back
put_none places all back many long = record {
  long = long;
  few = omega (arith, many);
  front = λ f e. e ∙ ap (map f) (sym (take_all (length all) places (omega (arith, many))));
  behind = λ f e u h l. absurd (omega (arith, h, l, many));
}

pub put_within : (places : List ℕ) → IsPermutation (range_with_len 0 (length places)) places → (u : ℕ) → u < length places → get_or places u 0 < length places
put_within places perm u h = All-permutation (λ i. i < length places) (range_with_len 0 (length places)) places perm within u 0 h
  where
    within : All (λ i. i < length places) (range_with_len 0 (length places))
    within k d l =
        let many = length-range_with_len 0 (length places) in
        let at = get_or-range_with_len 0 (length places) k d (omega (arith, l, many)) in
        omega (arith, at, l, many)

pub put_more : (places : List ℕ) (all values js back : List (Outcome Cell)) (value : Outcome Cell) (m : ℕ) → IsPermutation (range_with_len 0 (length places)) places → IsPut places all values back → values ≡ js ++ value ∷ [] → m ≡ length js
    → IsPut places all js (set back (get_or places m 0) value)
put_more places all values js back value m perm h items at =
    let more : length values ≡ length js + 1 = ap length items ∙ length_push js value in
    let here : length js < length places = omega (arith, more, h.few) in
    let k = get_or places m 0 in
    let within : k < length back = omega (arith, put_within places perm m (omega (arith, at, here)), h.long) in
    let parts : (f : ℕ → Outcome Cell) → all ≡ map f places → (js ≡ map f (take (length js) places)) × (value ≡ f (get_or places (length js) 0)) = λ f e.
    same_from_push js (map f (take (length js) places)) value (f (get_or places (length js) 0))
    (sym items ∙ h.front f e ∙ ap (λ n. map f (take n places)) more ∙ ap (map f) (take_more places (length js) 0 here) ∙ map-append f (take (length js) places) (get_or places (length js) 0 ∷ [])) in
    record {
      long = length-set back k value ∙ h.long;
      few = omega (arith, here);
      front = λ f e. (parts f e).0;
      behind = λ f e u l b. put_at f k (get_or places u 0) (cases_lt (length js) u) within ((parts f e).1 ∙ ap (λ i. f (get_or places i 0)) (sym at)) (λ j. h.behind f e u (omega (arith, more, j)) b) (λ j. ap (λ i. get_or places i 0) (omega (arith, at, l, j)));
    }
  where
    put_at : (f : ℕ → Outcome Cell) (k i : ℕ) {P Q : Type 0} → P ⊎ Q → k < length back → value ≡ f k → (P → get_or back i (Ok cells.Null) ≡ f i) → (Q → i ≡ k) → get_or (set back k value) i (Ok cells.Null) ≡ f i
    put_at f k i side within one other same = go (cases_eq i k)
      where
        go : (i ≡ k) ⊎ (i ≢ k) → get_or (set back k value) i (Ok cells.Null) ≡ f i
        go (inl e) = ap (λ j. get_or (set back k value) j (Ok cells.Null)) e ∙ get_or-set_same back k value (Ok cells.Null) within ∙ one ∙ ap f (sym e)
        go (inr e) = ⊎_elim (λ p. get_or-set_other back k i value (Ok cells.Null) e ∙ other p) (λ q. absurd (e (same q))) side

pub put_all : (places : List ℕ) (all values back : List (Outcome Cell)) → IsPermutation (range_with_len 0 (length places)) places → IsPut places all values back → length values ≡ 0 → (f : ℕ → Outcome Cell) → all ≡ map f places → back ≡ map f (range_with_len 0 (length places))
put_all places all values back perm h none f e = fill_by_all f back (length places) (Ok cells.Null) h.long each
  where
    each : (k : ℕ) → k < length places → get_or back k (Ok cells.Null) ≡ f k
    each k l =
        let many = length-range_with_len 0 (length places) in
        let found = Contains-permutation (range_with_len 0 (length places)) places k perm (k, omega (arith, l, many), get_or-range_with_len 0 (length places) k k l ∙ omega arith) in
        let one = get_or_default places found.0 0 k found.1 ∙ found.2 in
        subst (λ j. get_or back j (Ok cells.Null) ≡ f j) one (h.behind f e found.0 (omega (arith, none)) found.1)

-- ---- at all rows
told_from : (g : Row × ℕ → Outcome Cell) (rows : List Row) (a m : ℕ) → a + m ≡ length rows → map g (told_apart (drop a rows)) ≡ map (λ j. g (row_at rows j, behind rows j)) (range_with_len a m)
told_from g rows a zero e =
    let none : drop a rows ≡ [] = drop_all a rows (omega (arith, e)) in
    ap (λ l. map g (told_apart l)) none
told_from g rows a (suc m) e =
    let here : drop a rows ≡ row_at rows a ∷ drop (a + 1) rows = drop_more rows a [] (omega (arith, e)) in
    ap (λ l. map g (told_apart l)) here ∙ ap (λ l. g (row_at rows a, behind rows a) ∷ l) (told_from g rows (a + 1) m (omega (arith, e)))

pub told_rows : (v : View) (w : Window) (rows : List Row) → map (window_at v w rows) (range_with_len 0 (length rows)) ≡ map (window_value v w rows) (told_apart rows)
told_rows v w rows = sym (told_from (window_value v w rows) rows 0 (length rows) (omega arith))

-- ---- keys within the rows
columns_of_source : (s : Text × Columns) → length (columns_below s.0 s.1) ≡ length (map (λ e. e.1) s.1)
columns_of_source s = length-map s.1 (λ e. record { name = s.0 ++ line_feed ∷ e.0; kind = e.1 }) ∙ sym (length-map s.1 (λ e. e.1))

pub columns_many : (scope : Scope) → length (source_columns scope) ≡ length (row_of scope)
columns_many [] = refl
columns_many (s ∷ scope) =
    length-append (columns_below s.0 s.1) (source_columns scope) ∙ (λ i. columns_of_source s i + columns_many scope i) ∙ sym (length-append (map (λ e. e.1) s.1) (row_of scope))

all_mapped : {X : Type 0} (f : X → SortKey) (n : ℕ) (xs : List X) → AllByRecursion (λ x. (f x).column < n) xs → AllByRecursion (λ k. k.column < n) (map f xs)
all_mapped f n [] all = tt
all_mapped f n (x ∷ xs) all = (all.0, all_mapped f n xs all.1)

all_columns : (a n w : ℕ) → a + n ≤ w → AllByRecursion (λ i. (rising_key i).column < w) (range_with_len a n)
all_columns a zero w h = tt
all_columns a (suc n) w h = (omega (arith, h), all_columns (a + 1) n w (omega (arith, h)))

breakers_within : (c : WindowCall) (n : ℕ) → AllByRecursion (λ k. k.column < n) (tie_breakers c n)
breakers_within call.Rank n = tt
breakers_within (call.Value value.RatioToReport x) n = tt
breakers_within c n = all_mapped rising_key n (range_with_len 0 n) (all_columns 0 n n (omega arith))

pub keys_within : (scope : Scope) (o : Over) (c : WindowCall) (n : ℕ) → AllByRecursion (λ x. place_in scope x < n) o.partition → AllByRecursion (λ k. place_in scope k.column < n) o.order
    → All (λ k. k.column < n) ((map (partition_key scope) o.partition ++ map (order_key scope) o.order) ++ tie_breakers c n)
keys_within scope o c n partition order =
    All-from_recursion (λ k. k.column < n) ((map (partition_key scope) o.partition ++ map (order_key scope) o.order) ++ tie_breakers c n)
    (all_append (λ k. k.column < n) (map (partition_key scope) o.partition ++ map (order_key scope) o.order) (tie_breakers c n)
    (all_append (λ k. k.column < n) (map (partition_key scope) o.partition) (map (order_key scope) o.order) (all_mapped (partition_key scope) n o.partition partition) (all_mapped (order_key scope) n o.order order))
    (breakers_within c n))

pub partition_named : (v : View) (columns : List Column) → map key_of (map (λ x. rising_key (v.place x)) columns) ≡ map rising (map v.place columns)
partition_named v [] = refl
partition_named v (x ∷ xs) = ap (λ l. rising (v.place x) ∷ l) (partition_named v xs)

falls_is : (d : Option Direction) → falls d ≡ is_falling d
falls_is (Some direction.Descending) = refl
falls_is other = refl

pub order_named : (b : Base) (scope : Scope) (order : List WindowKey) → map key_of (map (order_key scope) order) ≡ map (window_key (at_rows b scope)) order
order_named b scope [] = refl
order_named b scope (k ∷ ks) = (λ i. record { place = place_in scope k.column; falling = falls_is k.direction i } ∷ order_named b scope ks i)
