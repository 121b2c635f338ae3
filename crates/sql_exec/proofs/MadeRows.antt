-- Rows of items with places, at the rows of FROM of some sources.
use Rattle.std.proofs.Common.{◌≡◌, ℕ, ◌<◌, List, [], ◌∷◌, true, length, get_or, ap, ◌∙◌}
use Rattle.vtl_cell.specs.Outcome.{unless}
use Rattle.vtl_cell.specs.Row.{Row}
use Rattle.vtl_decimal.specs.Settings.{Settings}
use Rattle.vtl_cell.specs.declared.kind.Kind.{Kind}
use Rattle.vtl_rows.specs.Tables.{column_kinds, fits, fits_kinds}
use Rattle.vtl_rows.specs.declared.column.Column.{Column}
use Rattle.sql_meaning.specs.Outcomes.{row_at, row_fault}
use Rattle.sql_meaning.specs.Selects.{Wanted, item_value}
use Rattle.sql_from.specs.Held.{rows_held}
use Rattle.sql_from.specs.Sources.{Sourced}
use Rattle.sql_from.specs.Standing.{sight_of}
use Rattle.sql_exec.specs.Items.{HaveValuesOf, made_at_row, numbered_row, told_row}
use Rattle.sql_exec.specs.declared.items.RowItem.{RowItem}
use Rattle.sql_exec.proofs.PlainRows.{one_row, row_fault_same, row_same}

module _ (p : Settings) (s : Sourced) (rows : List Row) (wanted : List Wanted) (lent made : List RowItem) (are : lent ≡ made) (have : HaveValuesOf (sight_of p s) rows wanted made) where
  -- the row of a tuple over the same sources, by its number
  module _ (t : Sourced) (is : t ≡ s) (i : ℕ) (h : i < length rows) (there : Row) (at_row : there ≡ get_or rows i []) where
    fault_is : row_fault (made_at_row p (rows_held t.held)) lent (there, i) ≡ row_fault (item_value (sight_of p s) rows) wanted (told_row rows i)
    fault_is =
        (λ j. row_fault (made_at_row p (rows_held (is j).held)) (are j) (at_row j, i))
        ∙ row_fault_same (made_at_row p (rows_held s.held)) made (numbered_row rows i) (item_value (sight_of p s) rows) wanted (told_row rows i) (have i h)

    row_is : row_at (made_at_row p (rows_held t.held)) lent (there, i) ≡ row_at (item_value (sight_of p s) rows) wanted (told_row rows i)
    row_is =
        (λ j. row_at (made_at_row p (rows_held (is j).held)) (are j) (at_row j, i))
        ∙ row_same (made_at_row p (rows_held s.held)) made (numbered_row rows i) (item_value (sight_of p s) rows) wanted (told_row rows i) (have i h)

    pub made_row : unless (row_fault (made_at_row p (rows_held t.held)) lent (there, i)) (row_at (made_at_row p (rows_held t.held)) lent (there, i) ∷ []) ≡ one_row (row_fault (item_value (sight_of p s) rows) wanted) (row_at (item_value (sight_of p s) rows) wanted) (told_row rows i)
    made_row = λ j. unless (fault_is j) (row_is j ∷ [])

    pub made_fits : (columns : List Column) (kinds : List Kind) → column_kinds columns ≡ kinds → fits_kinds kinds (row_at (item_value (sight_of p s) rows) wanted (told_row rows i)) ≡ true → fits columns (row_at (made_at_row p (rows_held t.held)) lent (there, i)) ≡ true
    made_fits columns kinds e fit = ap (fits columns) row_is ∙ ap (λ ks. fits_kinds ks (row_at (item_value (sight_of p s) rows) wanted (told_row rows i))) e ∙ fit
