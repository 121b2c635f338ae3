-- The first of many rows that has a key. A function gives the key of each row.
use Rattle.std.specs.Prelude.{◌≡◌, ℕ, ◌<◌, true, false, List, Option, None, Some, IsPermutation}
use Rattle.std.specs.List.{range_with_len}
use Rattle.std.specs.List.Sorted.{IsSorted}
use Rattle.std.specs.Ordering.{nat_cmp, on, then_cmp}
use Rattle.vtl_cell.specs.Row.{Row, row_cmp, same_row}

-- the row at a place has the key, and no row before it has
pub record IsFirst (keys : ℕ → Row) (n : ℕ) (key : Row) (place : ℕ) : Type 0 where
  pub within : place < n
  pub here : same_row (keys place) key ≡ true
  pub before : (j : ℕ) → j < place → same_row (keys j) key ≡ false

-- the first of n rows that has the key, if one has it
abbrev pub FindsFirst : (ℕ → Row) → ℕ → Row → Option ℕ → Type 0
FindsFirst keys n key None = (j : ℕ) → j < n → same_row (keys j) key ≡ false
FindsFirst keys n key (Some place) = IsFirst keys n key place

-- the numbers of n rows in the order of their keys; those of rows with one key rise
pub record IsKeyOrder (keys : ℕ → Row) (n : ℕ) (order : List ℕ) : Type 0 where
  pub all : IsPermutation (range_with_len 0 n) order
  pub sorted : IsSorted (then_cmp (on keys row_cmp) nat_cmp) order
