-- The groups of a table's rows, as they are gone over.
use Rattle.std.specs.Prelude.{ℕ, List, slice_index_or}
use Rattle.vtl_rows.specs.Places.{row_at}
use Rattle.vtl_rows.specs.Tables.{cells_at}
use Rattle.vtl_group.specs.Calls.{rows_at}
use Rattle.vtl_group.specs.Points.{Group}
use Rattle.vtl_group.specs.declared.recipe.Recipe.{Recipe}

-- the number of the first row
abbrev pub first_of : List ℕ → ℕ
first_of numbers = slice_index_or numbers 0 0

-- the group of the rows with these numbers, which have the same key
abbrev pub group_in : Recipe → List ℕ → Group
group_in r numbers = record {
  names = r.names.now;
  key = cells_at r.places.items (row_at r.table.now.rows (first_of numbers));
  columns = r.table.now.columns;
  points = rows_at r.table.now.rows numbers;
}
