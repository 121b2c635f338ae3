-- The fault seen so far.
use Rattle.std.specs.Prelude.{◌≡◌, Option, Some, None, Result, Ok, Err}
use Rattle.vtl_decimal.specs.declared.number.Fault.{Fault}
use Rattle.vtl_decimal.specs.declared.number.Fault.TheVariants.{DivZero, Range}
use Rattle.vtl_cell.specs.Outcome.{Outcome, join}
use Rattle.vtl_scalar.specs.declared.error.ScalarErr.{ScalarErr}
use Rattle.vtl_scalar.specs.declared.error.ScalarErr.TheVariants as err
use Rattle.vtl_scalar.specs.declared.seen.Seen.{Seen}
use Rattle.vtl_scalar.specs.declared.seen.Seen.TheVariants as seen

abbrev pub seen_of : Seen → Option Fault
seen_of seen.Nothing = None
seen_of seen.Range = Some Range
seen_of seen.DivZero = Some DivZero

-- the answer of a value or a fault, where no memory is wanted
abbrev pub answer_of : {A : Type 0} → Outcome A → Result A ScalarErr
answer_of (Ok x) = Ok x
answer_of (Err DivZero) = Err err.DivZero
answer_of (Err Range) = Err err.Range

-- the faults so far and that of the error, unless it tells of want of memory
abbrev pub SeesAlso : Result Seen ScalarErr → Option Fault → ScalarErr → Type 0
SeesAlso (Ok s) before err.DivZero = seen_of s ≡ join before (Some DivZero)
SeesAlso (Ok s) before err.Range = seen_of s ≡ join before (Some Range)
SeesAlso (Ok s) before err.OutOfMemory = ⊥
SeesAlso (Err e) before error = (e ≡ err.OutOfMemory) × (error ≡ err.OutOfMemory)
