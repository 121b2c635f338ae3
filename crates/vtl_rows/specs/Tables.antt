-- A table as contracts see it: its columns, and the list of its rows.
use Rattle.std.specs.Prelude.{◌≡◌, ℕ, Bool, true, false, ◌&&◌, List, [], ◌∷◌, map, slice_index_or, Result, Ok, Err, All}
use Rattle.vtl_cell.specs.Kinds.{is_of}
use Rattle.vtl_cell.specs.declared.kind.Kind.{Kind}
use Rattle.vtl_cell.specs.declared.kind.Kind.TheVariants as k
use Rattle.vtl_cell.specs.Row.{Row, column_of}
use Rattle.vtl_rows.specs.declared.column.Column.{Column}

pub record Listed : Type 0 where
  pub columns : List Column
  pub rows : List Row

-- the same, and for how many further rows there is room
pub record Tabled : Type 0 where
  pub columns : List Column
  pub rows : List Row
  pub spare : ℕ

-- what a table lists, whatever room it has
abbrev pub listed : Tabled → Listed
listed t = record { columns = t.columns; rows = t.rows }

-- what the table of an answer lists
abbrev pub listed_in : {E : Type 0} → Result Tabled E → Result Listed E
listed_in (Ok t) = Ok (listed t)
listed_in (Err e) = Err e

-- a row has one cell for each kind, null or of it
abbrev pub fits_kinds : List Kind → Row → Bool
fits_kinds [] [] = true
fits_kinds [] (x ∷ xs) = false
fits_kinds (kind ∷ kinds) [] = false
fits_kinds (kind ∷ kinds) (x ∷ xs) = is_of kind x && fits_kinds kinds xs

abbrev pub column_kinds : List Column → List Kind
column_kinds columns = map (λ c. c.kind) columns

-- one cell for each column, null or of its kind
abbrev pub fits : List Column → Row → Bool
fits columns row = fits_kinds (column_kinds columns) row

-- and so has each row
abbrev pub AllFit : List Column → List Row → Type 0
AllFit columns rows = All (λ r. fits columns r ≡ true) rows

-- the cells of a row at listed places
abbrev pub cells_at : List ℕ → Row → Row
cells_at places r = map (λ i. column_of i r) places

-- the column at a place; past the last one a column with no name, of the kind of null alone
abbrev pub column_at : List Column → ℕ → Column
column_at columns i = slice_index_or columns i (record { name = []; kind = k.Null })
