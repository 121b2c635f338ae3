-- The fault of many values.
use Rattle.std.specs.Prelude.{Bool, cond, List, Option, Some, None}
use Rattle.std.specs.List.{list_any}
use Rattle.vtl_cell.specs.Outcome.{Outcome}
use Rattle.vtl_cell.specs.declared.cell.Cell.{Cell}
use Rattle.vtl_decimal.specs.declared.number.Fault.{Fault}
use Rattle.vtl_decimal.specs.declared.number.Fault.TheVariants.{DivZero, Range}
use Rattle.vtl_meaning.specs.Faults.{is_fault}

-- some value has this fault
abbrev pub some_has : Fault → List (Outcome Cell) → Bool
some_has fault values = list_any (is_fault fault) values

-- division by zero where some value has it, else out of range where some value has it, else none
abbrev pub worst : List (Outcome Cell) → Option Fault
worst values = cond (some_has DivZero values) (Some DivZero) (cond (some_has Range values) (Some Range) None)
