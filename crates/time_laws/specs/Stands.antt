-- Where points stand in their series.
use Rattle.std.specs.Prelude.{◌≡◌, ℕ, ◌&&◌, Bool, false, List}
use Rattle.std.specs.List.{AllByRecursion, list_any}
use Rattle.vtl_cell.specs.Kinds.{is_null}
use Rattle.vtl_cell.specs.Order.{same_cell}
use Rattle.vtl_cell.specs.Row.{Row, same_row}
use Rattle.vtl_cell.specs.declared.cell.Cell.TheVariants as c
use Rattle.vtl_time.specs.Periods.{period_at}
use Rattle.vtl_time.specs.declared.periods.Frequency.{Frequency}
use Rattle.vtl_tree.specs.Columns.{measures_of}
use Rattle.vtl_tree.specs.Structure.{columns_of}
use Rattle.vtl_tree.specs.declared.structure.Structure.{Structure}
use Rattle.vtl_meaning.specs.Agreement.{values_in}
use Rattle.vtl_meaning.specs.LookUps.{value_named}
use Rattle.vtl_timing.specs.Times.{other_identifiers, time_of}

-- a point has these other identifiers, and its time is the period of this number in its frequency
abbrev pub is_at : Structure → Row → Frequency → ℕ → Row → Bool
is_at a key f i r = same_row (values_in a (other_identifiers a) r) key && same_cell (time_of a r) (c.Period (period_at f i))

abbrev pub stands_at : Structure → List Row → Row → Frequency → ℕ → Bool
stands_at a points key f i = list_any (is_at a key f i) points

-- no measure of a point is null
abbrev pub HasNoNulls : Structure → Row → Type 0
HasNoNulls a r = AllByRecursion (λ x. is_null (value_named (columns_of a) r x.name) ≡ false) (measures_of a)
