-- Items that are columns, whose cells are gathered.
use Rattle.std.specs.Prelude.{◌≡◌, ◌<◌, ℕ, true, All, List, length, map, slice_index_or, Ok}
use Rattle.vtl_cell.specs.Row.{Row, column_of}
use Rattle.vtl_cell.specs.declared.kind.Kind.TheVariants as k
use Rattle.vtl_rows.specs.Tables.{fits_kinds}
use Rattle.sql_from.specs.Columns.{kinds_at}
use Rattle.sql_check_parts.specs.Scopes.{Scope, row_of}
use Rattle.sql_meaning.specs.Selects.{Wanted, item_value}
use Rattle.sql_meaning.specs.Tables.{Base}
use Rattle.sql_meaning.specs.Values.{at_rows}

-- An item is of the kind of the column at a place of the rows of FROM, and its value at each row that fits is the cell there.
pub record IsColumnAt (scope : Scope) (item : Wanted) (place : ℕ) : Type 0 where
  pub within : place < length (row_of scope)
  pub kind : item.1 ≡ slice_index_or (row_of scope) place k.Null
  pub value : (b : Base) (rows : List Row) (x : Row × ℕ) → fits_kinds (row_of scope) x.0 ≡ true → item_value (at_rows b scope) rows item x ≡ Ok (column_of place x.0)

-- and so is each of some items, at its own place
pub record AreColumnsAt (scope : Scope) (items : List Wanted) (places : List ℕ) : Type 0 where
  pub within : All (λ i. i < length (row_of scope)) places
  pub kinds : map (λ w. w.1) items ≡ kinds_at places (row_of scope)
  pub values : (b : Base) (rows : List Row) (x : Row × ℕ) → fits_kinds (row_of scope) x.0 ≡ true → map (λ w. item_value (at_rows b scope) rows w x) items ≡ map (λ i. Ok (column_of i x.0)) places
