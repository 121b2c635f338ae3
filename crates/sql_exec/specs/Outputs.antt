-- What the selects of a query gave so far.
use Rattle.std.specs.Prelude.{◌≡◌, ◌++◌, List, None, Option, Some}
use Rattle.vtl_decimal.specs.declared.number.Fault.TheVariants.{DivZero, Range}
use Rattle.vtl_decimal.specs.declared.number.Fault.{Fault}
use Rattle.vtl_cell.specs.Outcome.{Outcome, fault_in, join}
use Rattle.vtl_cell.specs.Row.{Row}
use Rattle.vtl_scalar.specs.declared.error.ScalarErr.{ScalarErr}
use Rattle.vtl_scalar.specs.declared.error.ScalarErr.TheVariants as err
use Rattle.vtl_scalar.specs.Seen.{seen_of}
use Rattle.sql_meaning.specs.Selects.{rows_in}
use Rattle.sql_exec.specs.declared.output.Output.{Output}

abbrev pub fault_seen : Output → Option Fault
fault_seen out = seen_of out.seen

-- behind what was there stand the rows of one more outcome, unless a fault was seen; and its own fault is seen
pub record Adds (m : Outcome (List Row)) (old new : Output) : Type 0 where
  pub columns : new.table.columns ≡ old.table.columns
  pub fault : fault_seen new ≡ join (fault_seen old) (fault_in m)
  pub rows : fault_seen new ≡ None → new.table.rows ≡ old.table.rows ++ rows_in m

-- a fault is seen
abbrev pub Sees : ScalarErr → Output → Output → Type 0
Sees err.DivZero old new = fault_seen new ≡ join (fault_seen old) (Some DivZero)
Sees err.Range old new = fault_seen new ≡ join (fault_seen old) (Some Range)
Sees err.OutOfMemory old new = ⊥
