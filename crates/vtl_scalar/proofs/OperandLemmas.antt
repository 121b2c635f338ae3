-- Operators by the number of their operands.
use Rattle.std.proofs.Common.{◌≡◌, [], ◌∷◌, refl}
use Rattle.vtl_cell.specs.Scalars.{scalar_of, unary_of}
use Rattle.vtl_decimal.specs.Settings.{Settings}
use Rattle.vtl_cell.specs.declared.cell.Cell.{Cell}
use Rattle.vtl_cell.specs.declared.operator.ScalarOp.{ScalarOp}
use Rattle.vtl_cell.specs.declared.operator.ScalarOp.TheVariants as op

-- a value alone is in no set
pub scalar_of_one : (p : Settings) (o : ScalarOp) (a : Cell) → scalar_of p o (a ∷ []) ≡ unary_of p o a
scalar_of_one p op.In a = refl
scalar_of_one p op.NotIn a = refl
scalar_of_one p other a = refl
