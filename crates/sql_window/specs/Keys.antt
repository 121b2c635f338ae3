-- The keys by which the rows of a window are sorted.
use Rattle.std.specs.Prelude.{◌≡◌, ℕ, Bool, true, false, List, [], ◌++◌, map, length, Option, Some, All}
use Rattle.std.specs.List.{range_with_len}
use Rattle.vtl_cell.specs.Row.{Row}
use Rattle.vtl_cell.specs.Sorted.{rising}
use Rattle.vtl_rows.specs.Keys.{key_of}
use Rattle.vtl_rows.specs.Places.{IsOrderOf}
use Rattle.vtl_rows.specs.declared.column.SortKey.{SortKey}
use Rattle.sql_tree.specs.declared.parts.Column.{Column}
use Rattle.vtl_frames.specs.Stretches.{stretches_of}
use Rattle.sql_tree.specs.declared.windows.Window.{Window}
use Rattle.sql_tree.specs.declared.windows.WindowCall.{WindowCall}
use Rattle.sql_tree.specs.declared.windows.WindowCall.TheVariants as call
use Rattle.sql_tree.specs.declared.windows.WindowKey.{WindowKey}
use Rattle.sql_tree.specs.declared.word_groups.Direction.{Direction}
use Rattle.sql_tree.specs.declared.word_groups.Direction.TheVariants as direction
use Rattle.sql_tree.specs.declared.word_groups.ValueFunction.TheVariants as value
use Rattle.sql_check_parts.specs.Scopes.{Scope}
use Rattle.sql_meaning.specs.Values.{View, place_in}
use Rattle.sql_meaning.specs.Windows.{keys_of, partition_places}

abbrev pub rising_key : ℕ → SortKey
rising_key i = record { column = i; falling = false }

abbrev pub falls : Option Direction → Bool
falls (Some direction.Descending) = true
falls other = false

abbrev pub partition_key : Scope → Column → SortKey
partition_key scope x = rising_key (place_in scope x)

abbrev pub order_key : Scope → WindowKey → SortKey
order_key scope k = record { column = place_in scope k.column; falling = falls k.direction }

-- what is looked at where rows tie by the listed keys: all columns, or nothing for a rank, which is one for rows that tie, and for a
-- share of the total, which no order changes
abbrev pub tie_breakers : WindowCall → ℕ → List SortKey
tie_breakers call.Rank width = []
tie_breakers (call.Value value.RatioToReport x) width = []
tie_breakers other width = map rising_key (range_with_len 0 width)

-- these numbers of rows stand in the order of a window: by the columns of PARTITION BY, the keys of ORDER BY, and what its call looks at where rows tie
pub record AreSorted (v : View) (w : Window) (partition order : List SortKey) (rows : List Row) (width : ℕ) (numbers : List ℕ) : Type 0 where
  pub partition_is : map key_of partition ≡ map rising (partition_places v w.over)
  pub order_is : map key_of order ≡ keys_of v w.over
  pub placed : IsOrderOf ((partition ++ order) ++ tie_breakers w.call width) rows numbers
  pub wide : All (λ r. length r ≡ width) rows

-- and these are its partitions
pub record AreCut (v : View) (w : Window) (order : List SortKey) (rows : List Row) (width : ℕ) (partitions : List (List ℕ)) : Type 0 where
  pub partition : List SortKey
  pub numbers : List ℕ
  pub sorted : AreSorted v w partition order rows width numbers
  pub are : partitions ≡ stretches_of partition rows numbers
