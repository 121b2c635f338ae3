-- The values of the scalar operators on periods.
use Rattle.std.specs.Prelude.{[], ◌∷◌, ◌&&◌, if◌then◌else◌, ℤ, neg_ℤ, Option, Some, None, Ok, Err}
use Rattle.std.specs.Int.RustNames.{int_le}
use Rattle.vtl_decimal.specs.declared.number.Fault.TheVariants.{Range}
use Rattle.vtl_time.specs.Periods.{YearPart, letter_of, shift_of}
use Rattle.vtl_cell.specs.Literals.{longest_reach}
use Rattle.vtl_cell.specs.Outcome.{Outcome}
use Rattle.vtl_cell.specs.declared.cell.Cell.{Cell}
use Rattle.vtl_cell.specs.declared.cell.Cell.TheVariants as c

-- the places that may be asked for, back or on
abbrev pub places_in : Cell → Option ℤ
places_in (c.Int n) = if int_le (neg_ℤ longest_reach) n && int_le n longest_reach then Some n else None
places_in other = None

-- the period, or the fault of a year outside 0 to 9999
abbrev pub period : Option YearPart → Outcome Cell
period (Some q) = Ok (c.Period q)
period None = Err Range

-- the period so many places later in its frequency
abbrev pub shifted_of : Cell → Option ℤ → Outcome Cell
shifted_of (c.Period q) (Some n) = period (shift_of q n)
shifted_of a n = Ok c.Null

-- A, S, Q or M
abbrev pub frequency_of : Cell → Cell
frequency_of (c.Period q) = c.Text (letter_of q.frequency ∷ [])
frequency_of other = c.Null
