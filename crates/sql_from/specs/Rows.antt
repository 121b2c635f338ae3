-- The rows of FROM that tuples of row numbers stand for. The number one past a table's last row is that of a missing part.
use Rattle.std.specs.Prelude.{ℕ, ◌+◌, List, [], ◌∷◌, ◌++◌, map, length, slice_index_or}
use Rattle.std.specs.List.{range_with_len}
use Rattle.vtl_cell.specs.Row.{Row}
use Rattle.vtl_rows.specs.Places.{row_at}
use Rattle.vtl_rows.specs.Tables.{Listed, cells_at}
use Rattle.vtl_rows.specs.declared.gather.Pick.{Pick}

-- the places of a table's columns
abbrev pub places_of : Listed → List ℕ
places_of t = range_with_len 0 (length t.columns)

-- a row of a table, or as many nulls where it has no row of this number
abbrev pub part : Listed → ℕ → Row
part t i = cells_at (places_of t) (row_at t.rows i)

-- the rows of the sources one behind the other
abbrev pub combined : List Listed → List ℕ → Row
combined [] is = []
combined (t ∷ ts) [] = []
combined (t ∷ ts) (i ∷ is) = part t i ++ combined ts is

-- how many cells such a row has
abbrev pub width_of : List Listed → ℕ
width_of [] = 0
width_of (t ∷ ts) = length t.columns + width_of ts

-- so many columns of the source at a place
abbrev pub picks_at : ℕ → ℕ → List Pick
picks_at k count = map (λ j. record { part = k; column = j }) (range_with_len 0 count)

-- where the cells of such a row stand: those of the first source, then those of the next one, and so on from the source of this place
abbrev pub picks_from : ℕ → List Listed → List Pick
picks_from k [] = []
picks_from k (t ∷ ts) = picks_at k (length t.columns) ++ picks_from (k + 1) ts

-- where the cell at a place of a row stands, by where all its cells stand; past the last one in the first column of the first source
abbrev pub pick_for : List Pick → ℕ → Pick
pick_for picks i = slice_index_or picks i (record { part = 0; column = 0 })
