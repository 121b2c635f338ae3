-- The operators that the laws are about.
use Rattle.std.specs.Prelude.{Bool, true, false}
use Rattle.vtl_cell.specs.declared.operator.ScalarOp.{ScalarOp}
use Rattle.vtl_cell.specs.declared.operator.ScalarOp.TheVariants as op

-- whether an operator may have a fault
abbrev pub may_fault : ScalarOp → Bool
may_fault op.Add = true
may_fault op.Subtract = true
may_fault op.Multiply = true
may_fault op.Divide = true
may_fault op.Floor = true
may_fault op.Ceil = true
may_fault op.Round = true
may_fault op.Position = true
may_fault op.Length = true
may_fault op.PeriodShift = true
may_fault other = false

-- whether an operator is null where an operand is null
abbrev pub is_strict : ScalarOp → Bool
is_strict op.And = false
is_strict op.Or = false
is_strict op.IsNull = false
is_strict op.ValueOr = false
is_strict op.If = false
is_strict other = true
