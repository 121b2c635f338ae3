-- An index as contracts see it.
use Rattle.std.specs.Prelude.{ℕ, List}
use Rattle.vtl_cell.specs.Row.{Row}
use Rattle.vtl_index.specs.Entries.{rows_in}
use Rattle.vtl_index.specs.declared.index.Index.{Index}

-- how many cells its keys have
abbrev pub width_of : Index → ℕ
width_of index = index.entries.width

-- the rows of each key
abbrev pub rows_by : Index → Row → List ℕ
rows_by index = rows_in index.entries
