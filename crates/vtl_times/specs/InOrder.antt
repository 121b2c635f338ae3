-- The points of each series, in the order of their times.
use Rattle.std.specs.Prelude.{◌≡◌, ℕ, ◌+◌, ◌-◌, ◌<◌, ◌==◌, nat_le, false, true, Bool, List, [], ◌∷◌, ◌++◌, filter, length, map, take, Option, Some, None, slice_index_or, if◌then◌else◌}
use Rattle.std.specs.List.{AllByRecursion, flat_map, list_any}
use Rattle.std.specs.Option.{option_map_or}
use Rattle.vtl_cell.specs.Row.{Row, column_of}
use Rattle.vtl_lists.specs.Perm.{Perm}
use Rattle.vtl_rows.specs.Places.{row_at}
use Rattle.vtl_rows.specs.declared.column.SortKey.{SortKey}
use Rattle.vtl_series.specs.Series.{frequencies, has_frequency, period_in}
use Rattle.vtl_time.specs.declared.periods.Frequency.{Frequency}
use Rattle.vtl_tree.specs.Columns.{place_of}
use Rattle.vtl_tree.specs.Environment.{DataSet}
use Rattle.vtl_tree.specs.Structure.{columns_of}
use Rattle.vtl_tree.specs.declared.structure.Structure.{Structure}
use Rattle.vtl_timing.specs.Times.{other_identifiers, previous, time_place, up_to}

-- ---- the keys of the sort
abbrev pub rising_key : ℕ → SortKey
rising_key place = record { column = place; falling = false }

abbrev pub group_keys : Structure → List SortKey
group_keys a = map (λ y. rising_key (place_of y.name (columns_of a))) (other_identifiers a)

abbrev pub time_keys : Structure → List SortKey
time_keys a = group_keys a ++ rising_key (time_place a) ∷ []

-- ---- frequencies
abbrev pub is_at : ℕ → Frequency → Row → Bool
is_at time f r = option_map_or (has_frequency f) (period_in (column_of time r)) false

-- of rows by their numbers those whose time has a frequency
abbrev pub of_frequency : ℕ → Frequency → List Row → List ℕ → List ℕ
of_frequency time f rows run = filter (λ k. is_at time f (row_at rows k)) run

-- they make a list of a series, or none where there are none
abbrev pub one_if_some : List ℕ → List (List ℕ)
one_if_some [] = []
one_if_some (k ∷ ks) = (k ∷ ks) ∷ []

abbrev pub part_of : ℕ → List Row → List ℕ → Frequency → List (List ℕ)
part_of time rows run f = one_if_some (of_frequency time f rows run)

abbrev pub parts_of : ℕ → List Row → List ℕ → List (List ℕ)
parts_of time rows run = flat_map (part_of time rows run) frequencies

-- ---- series
abbrev pub point_at : DataSet → List ℕ → ℕ → Row
point_at d s i = row_at d.points (slice_index_or s i 0)

-- the point before one at a place, where there is one
abbrev pub point_before : DataSet → List ℕ → ℕ → Option Row
point_before d s i = if nat_le 1 i then Some (point_at d s (i - 1)) else None

-- points by their numbers are a series in order: those up to a place are those up to the time of the point there
pub record IsSeries (d : DataSet) (s : List ℕ) : Type 0 where
  pub within : AllByRecursion (λ k. k < length d.points) s
  pub up_to : (i : ℕ) → i < length s → Perm (up_to d (point_at d s i)) (map (row_at d.points) (take (i + 1) s))
  pub previous : (i : ℕ) → i < length s → previous d (point_at d s i) ≡ point_before d s i

abbrev pub has_number : ℕ → List ℕ → Bool
has_number k s = list_any (λ j. j == k) s

-- these are series, and each point is in one
pub record AreSeries (d : DataSet) (ss : List (List ℕ)) : Type 0 where
  pub each : AllByRecursion (IsSeries d) ss
  pub all : (k : ℕ) → k < length d.points → list_any (has_number k) ss ≡ true
