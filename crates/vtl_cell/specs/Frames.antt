-- Which rows of a partition a window sees. A place is counted from 0.
use Rattle.std.specs.Prelude.{ℕ, ◌+◌, ◌-◌, ◌&&◌, nat_le, Bool, true, List, length, take, drop, filter, map, slice_index_or, if◌then◌else◌}
use Rattle.std.specs.List.{range_with_len}
use Rattle.vtl_cell.specs.declared.cell.Cell.{Cell}
use Rattle.vtl_cell.specs.Row.{column_of}

-- where a frame starts or ends, seen from the place of a row
pub data Bound : Type 0 where
  UnboundedPreceding : Bound
  Preceding : ℕ → Bound
  Current : Bound
  Following : ℕ → Bound
  UnboundedFollowing : Bound

-- how many rows of a partition of n rows stand before a frame that starts at the bound, for the row at place i
abbrev pub before : Bound → ℕ → ℕ → ℕ
before UnboundedPreceding n i = 0
before (Preceding k) n i = i - k
before Current n i = i
before (Following k) n i = i + k
before UnboundedFollowing n i = n - 1

-- how many rows of it stand up to the end of a frame that ends at the bound
abbrev pub up_to : Bound → ℕ → ℕ → ℕ
up_to UnboundedPreceding n i = 1
up_to (Preceding k) n i = i + 1 - k
up_to Current n i = i + 1
up_to (Following k) n i = i + k + 1
up_to UnboundedFollowing n i = n

-- the rows at places from the first bound to the last one, which are none where the first lies behind the last
abbrev pub frame_of : {A : Type 0} → Bound → Bound → ℕ → List A → List A
frame_of start end i rows = drop (before start (length rows) i) (take (up_to end (length rows) i) rows)

-- whether the place j of n rows does not lie before the bound, seen from the row at place i
abbrev pub is_from : Bound → ℕ → ℕ → ℕ → Bool
is_from UnboundedPreceding n i j = true
is_from (Preceding k) n i j = nat_le i (j + k)
is_from Current n i j = nat_le i j
is_from (Following k) n i j = nat_le (i + k) j
is_from UnboundedFollowing n i j = nat_le n (j + 1)

-- whether it does not lie behind the bound
abbrev pub is_up_to : Bound → ℕ → ℕ → ℕ → Bool
is_up_to UnboundedPreceding n i j = nat_le j 0
is_up_to (Preceding k) n i j = nat_le (j + k) i
is_up_to Current n i j = nat_le j i
is_up_to (Following k) n i j = nat_le j (i + k)
is_up_to UnboundedFollowing n i j = true

-- whether the place lies between the bounds
abbrev pub is_between : Bound → Bound → ℕ → ℕ → ℕ → Bool
is_between start end n i j = is_from start n i j && is_up_to end n i j

-- the rows at the places that pass a test; the default counts for nothing, since each place is one of the list
abbrev pub rows_at : {A : Type 0} → (ℕ → Bool) → List A → A → List A
rows_at test rows default = map (λ j. slice_index_or rows j default) (filter test (range_with_len 0 (length rows)))

-- the first and the last cell, or null where there is none
abbrev pub first_cell : List Cell → Cell
first_cell cells = column_of 0 cells

abbrev pub last_cell : List Cell → Cell
last_cell cells = column_of (length cells - 1) cells

-- the cell n places before the place i, and n places behind it, or the default where there is no such place; the caller has
-- made an integer default beside numbers the equal number before, by `as_kind`
abbrev pub lag_of : ℕ → Cell → ℕ → List Cell → Cell
lag_of n default i cells = if nat_le n i then slice_index_or cells (i - n) default else default

abbrev pub lead_of : ℕ → Cell → ℕ → List Cell → Cell
lead_of n default i cells = slice_index_or cells (i + n) default
