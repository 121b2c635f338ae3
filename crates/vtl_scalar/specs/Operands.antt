-- What a contract sees of two operands that were made alike.
use Rattle.std.specs.Prelude.{Result, Ok, Err}
use Rattle.vtl_decimal.specs.declared.number.Fault.{Fault as DecimalFault}
use Rattle.vtl_decimal.specs.declared.number.Fault.TheVariants as decimal
use Rattle.vtl_cell.specs.Outcome.{Outcome}
use Rattle.vtl_cell.specs.ScalarArithmetic.{Pair, integers, numbers, neither}
use Rattle.vtl_scalar.specs.declared.error.ScalarErr.{ScalarErr}
use Rattle.vtl_scalar.specs.declared.error.ScalarErr.TheVariants as err
use Rattle.vtl_scalar.specs.declared.operands.Pair.{Pair as Operands}
use Rattle.vtl_scalar.specs.declared.operands.Pair.TheVariants as operands

abbrev pub pair_view : Operands → Pair
pair_view (operands.Integers a b) = integers a b
pair_view (operands.Numbers a b) = numbers a b
pair_view operands.Neither = neither

-- two operands, or the fault of making them alike
abbrev pub pair_outcome : Result Operands DecimalFault → Outcome Pair
pair_outcome (Ok o) = Ok (pair_view o)
pair_outcome (Err e) = Err e

-- a fault of decimal numbers, as this crate names it
abbrev pub error_of : DecimalFault → ScalarErr
error_of decimal.DivZero = err.DivZero
error_of decimal.Range = err.Range
