-- What an answer tells of the rows of a query.
use Rattle.std.specs.Prelude.{◌≡◌, List, Result, Ok, Err}
use Rattle.vtl_decimal.specs.declared.number.Fault.TheVariants.{DivZero, Range}
use Rattle.vtl_cell.specs.Outcome.{Outcome}
use Rattle.vtl_cell.specs.Outcomes.{Same}
use Rattle.vtl_cell.specs.Row.{Row}
use Rattle.vtl_rows.specs.Tables.{Tabled}
use Rattle.vtl_scalar.specs.declared.error.ScalarErr.{ScalarErr}
use Rattle.vtl_scalar.specs.declared.error.ScalarErr.TheVariants as err

-- The table has these rows, each as often, in any order; or the fault is the one that is told. Of want of memory nothing is said.
abbrev pub Gives : Outcome (List Row) → Result Tabled ScalarErr → Type 0
Gives meant (Ok t) = Same meant (Ok t.rows)
Gives meant (Err err.DivZero) = meant ≡ Err DivZero
Gives meant (Err err.Range) = meant ≡ Err Range
Gives meant (Err err.OutOfMemory) = Unit {0}
