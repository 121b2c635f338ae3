-- The fault of a condition over many rows.
use Rattle.std.specs.Prelude.{List, Option}
use Rattle.vtl_decimal.specs.Settings.{Settings}
use Rattle.vtl_decimal.specs.declared.number.Fault.{Fault}
use Rattle.vtl_cell.specs.Outcome.{fault_in, faults_by}
use Rattle.vtl_cell.specs.Row.{Row}
use Rattle.vtl_tree.specs.CompExp.{CompExp}
use Rattle.vtl_tree.specs.Value.{value}

-- the fault of all its values, as `filter_of` has it
abbrev pub fault_over : Settings → CompExp → List Row → Option Fault
fault_over p e rows = faults_by (λ r. fault_in (value p e r)) rows
