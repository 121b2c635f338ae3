-- The fault of an operator: division by zero where any whole value has it, else out of range where any has it.
use Rattle.std.specs.Prelude.{Bool, true, false, cond, List, Ok, Err}
use Rattle.std.specs.List.{list_any}
use Rattle.vtl_decimal.specs.Settings.{Settings}
use Rattle.vtl_cell.specs.declared.cell.Cell.{Cell}
use Rattle.vtl_decimal.specs.declared.number.Fault.{Fault}
use Rattle.vtl_decimal.specs.declared.number.Fault.TheVariants.{DivZero, Range}
use Rattle.vtl_cell.specs.Outcome.{Outcome}
use Rattle.vtl_cell.specs.Row.{Row}
use Rattle.vtl_tree.specs.CompExp.{CompExp}
use Rattle.vtl_tree.specs.Value.{value}

abbrev pub is_fault : Fault → Outcome Cell → Bool
is_fault DivZero (Err DivZero) = true
is_fault Range (Err Range) = true
is_fault f m = false

-- one of the expressions has this fault at one of the points
abbrev pub any_fault : Settings → List CompExp → List Row → Fault → Bool
any_fault p es d f = list_any (λ r. list_any (λ e. is_fault f (value p e r)) es) d

-- these points, unless one of the expressions has a fault at one of the operand's
abbrev pub unless_any : Settings → List CompExp → List Row → List Row → Outcome (List Row)
unless_any p es d out = cond (any_fault p es d DivZero) (Err DivZero) (cond (any_fault p es d Range) (Err Range) (Ok out))
