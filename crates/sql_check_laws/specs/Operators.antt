-- Where an operator has another kind in SQL than in VTL.
use Rattle.std.specs.Prelude.{Bool, true, false, List, [], ◌∷◌}
use Rattle.vtl_cell.specs.declared.kind.Kind.{Kind}
use Rattle.vtl_cell.specs.declared.operator.ScalarOp.{ScalarOp}
use Rattle.vtl_cell.specs.declared.operator.ScalarOp.TheVariants as op

-- REPLACE has no form of two operands
abbrev pub is_short_replace : ScalarOp → List Kind → Bool
is_short_replace op.Replace (a ∷ p ∷ []) = true
is_short_replace o kinds = false
