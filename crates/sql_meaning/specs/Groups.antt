-- Groups of rows by the cells of GROUP BY. A group is known by these cells, its key, and its rows are a function of the key.
use Rattle.std.specs.Prelude.{ℕ, List, [], ◌∷◌, map, filter}
use Rattle.vtl_cell.specs.Row.{Row, same_row}
use Rattle.vtl_rows.specs.Tables.{cells_at}
use Rattle.vtl_tuples.specs.Keys.{each_once}

-- the rows with this key, null being equal to null
abbrev pub rows_with : List ℕ → List Row → Row → List Row
rows_with places rows key = filter (λ r. same_row (cells_at places r) key) rows

-- without GROUP BY there is one group, also of no rows; otherwise one for each tuple of its columns' cells
abbrev pub keys_by : List ℕ → List Row → List Row
keys_by [] rows = [] ∷ []
keys_by (i ∷ is) rows = each_once same_row (map (cells_at (i ∷ is)) rows)
