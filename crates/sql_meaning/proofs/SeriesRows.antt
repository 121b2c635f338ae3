-- The rows of a SERIES: what holds of each of them, and that the order of the table's rows is not seen.
use Rattle.std.proofs.Common.{◌≡◌, ℕ, ◌*◌, Bool, true, false, List, [], ◌∷◌, ◌++◌, ◌&&◌, map, refl, ap, sym}
use Rattle.std.specs.Prelude.{nat_le, not}
use Rattle.std.specs.List.{AllByRecursion, filter, flat_map, range_with_len}
use Rattle.std.specs.Option.{option_map_or}
use Rattle.vtl_lists.specs.Perm.{Perm, chain}
use Rattle.vtl_lists.proofs.Aparts.{list_any-Perm}
use Rattle.vtl_lists.proofs.Perms.{Perm-filter, Perm-flat_map, Perm-map, Perm-same}
use Rattle.vtl_lists.proofs.Sorts.{AllByRecursion-filter}
use Rattle.vtl_lists.proofs.Alls.{all_append}
use Rattle.vtl_cell.specs.Row.{Row, same_row}
use Rattle.vtl_cell.specs.declared.cell.Cell.TheVariants as c
use Rattle.vtl_rows.specs.Tables.{cells_at}
use Rattle.vtl_time.specs.Periods.{YearPart, parts_in_year, period_at}
use Rattle.vtl_time.specs.declared.periods.Frequency.{Frequency}
use Rattle.vtl_index.specs.Groups.{each_once}
use Rattle.vtl_tuples.specs.Keys as tuples
use Rattle.vtl_series.specs.Series.{dated, frequencies, is_spanned, keys_by, number_at, numbers_of, rows_by, seen_by, series_at, series_rows, some_number}
use Rattle.vtl_series.specs.declared.extent.Extent.{Extent}
use Rattle.vtl_series.proofs.OrderLemmas.{seen-Perm}
use Rattle.sql_meaning.proofs.UpToOrder.{once-Perm}

-- ---- what holds of each row

all_flat : {A B : Type 0} (P : B → Type 0) (f : A → List B) (Q : A → Type 0) → ((x : A) → Q x → AllByRecursion P (f x)) → (xs : List A) → AllByRecursion Q xs → AllByRecursion P (flat_map f xs)
all_flat P f Q h [] all = tt
all_flat P f Q h (x ∷ xs) all = all_append P (f x) (flat_map f xs) (h x all.0) (all_flat P f Q h xs all.1)

all_mapped : {A B : Type 0} (P : B → Type 0) (f : A → B) → ((x : A) → P (f x)) → (xs : List A) → AllByRecursion P (map f xs)
all_mapped P f h [] = tt
all_mapped P f h (x ∷ xs) = (h x, all_mapped P f h xs)

all_once : {X : Type 0} (same : X → X → Bool) (P : X → Type 0) (xs : List X) → AllByRecursion P xs → AllByRecursion P (each_once same xs)
all_once same P [] all = tt
all_once same P (x ∷ xs) all = (all.0, AllByRecursion-filter P (λ y. not (same x y)) (each_once same xs) (all_once same P xs all.1))

-- it holds of a tuple with any period behind it
abbrev Leads : (Row → Type 0) → Row → Type 0
Leads P key = (q : YearPart) → P (key ++ c.Period q ∷ [])

pub series_all : (P : Row → Type 0) (e : Extent) (on : ℕ) (by : List ℕ) (rows : List Row) → AllByRecursion (λ r. (q : YearPart) → P (cells_at by r ++ c.Period q ∷ [])) rows → AllByRecursion P (series_rows e on by rows)
series_all P e on by rows all =
    all_flat P (λ key. flat_map (series_at e on rows (rows_by by rows key) key) frequencies) (Leads P)
    (λ key h. all_flat P (series_at e on rows (rows_by by rows key) key) (λ f. Unit {0}) (λ f u. of_frequency key h f) frequencies (tt, (tt, (tt, (tt, tt)))))
    (keys_by by rows) (all_once same_row (Leads P) (map (cells_at by) rows) (tuples_of rows all))
  where
    of_frequency : (key : Row) → Leads P key → (f : Frequency) → AllByRecursion P (series_at e on rows (rows_by by rows key) key f)
    of_frequency key h f = all_mapped P (dated f key) (λ i. h (period_at f i)) (numbers_of f on (rows_by by rows key) (seen_by e rows (rows_by by rows key)))

    tuples_of : (rs : List Row) → AllByRecursion (λ r. Leads P (cells_at by r)) rs → AllByRecursion (Leads P) (map (cells_at by) rs)
    tuples_of [] h = tt
    tuples_of (r ∷ rs) h = (h.0, tuples_of rs h.1)

-- ---- order

once_same : {X : Type 0} (same : X → X → Bool) (xs : List X) → each_once same xs ≡ tuples.each_once same xs
once_same same [] = refl
once_same same (x ∷ xs) = ap (λ l. x ∷ filter (λ y. not (same x y)) l) (once_same same xs)

keys-Perm : (by : List ℕ) {rows others : List Row} → Perm rows others → Perm (keys_by by rows) (keys_by by others)
keys-Perm by {rows} {others} p =
    chain (Perm-same (each_once same_row (map (cells_at by) rows)) (tuples.each_once same_row (map (cells_at by) rows)) (once_same same_row (map (cells_at by) rows)))
    (chain (once-Perm (Perm-map (cells_at by) p))
    (Perm-same (tuples.each_once same_row (map (cells_at by) others)) (each_once same_row (map (cells_at by) others)) (sym (once_same same_row (map (cells_at by) others)))))

some_same : (test : ℕ → Bool) (f : Frequency) (on : ℕ) {rows others : List Row} → Perm rows others → some_number test f on rows ≡ some_number test f on others
some_same test f on p = list_any-Perm (λ r. option_map_or test (number_at on f r) false) p

module _ (e : Extent) (on : ℕ) (by : List ℕ) (rows others : List Row) (p : Perm rows others) where
  -- the rows of a tuple, and those among which its bounds are sought
  own_same : (key : Row) → Perm (rows_by by rows key) (rows_by by others key)
  own_same key = Perm-filter (λ r. same_row (cells_at by r) key) p

  numbers_same : (key : Row) (f : Frequency) → numbers_of f on (rows_by by rows key) (seen_by e rows (rows_by by rows key)) ≡ numbers_of f on (rows_by by others key) (seen_by e others (rows_by by others key))
  numbers_same key f =
      let seen = seen-Perm e p (own_same key) in
      λ n. filter (λ i. some_same (λ j. true) f on (own_same key) n && (some_same (λ j. nat_le j i) f on seen n && some_same (λ j. nat_le i j) f on seen n)) (range_with_len 0 (10000 * parts_in_year f))

  -- the rows of a tuple's series
  abbrev made : List Row → Row → List Row
  made rs key = flat_map (series_at e on rs (rows_by by rs key) key) frequencies

  made_same : made rows ≡ made others
  made_same = λ n key. flat_map (λ f. map (dated f key) (numbers_same key f n)) frequencies

  ordered : Perm (series_rows e on by rows) (series_rows e on by others)
  ordered = chain (Perm-flat_map (made rows) (keys-Perm by p)) (Perm-same (flat_map (made rows) (keys_by by others)) (series_rows e on by others) (ap (λ (F : Row → List Row). flat_map F (keys_by by others)) made_same))

pub series_order : (e : Extent) (on : ℕ) (by : List ℕ) {rows others : List Row} → Perm rows others → Perm (series_rows e on by rows) (series_rows e on by others)
series_order e on by {rows} {others} p = ordered e on by rows others p
