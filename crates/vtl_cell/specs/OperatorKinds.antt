-- What operators whose operands have to be literals take.
use Rattle.std.specs.Prelude.{Bool, true, false, List, [], ◌∷◌, map, Option, if◌then◌else◌}
use Rattle.vtl_cell.specs.ScalarKinds.{kinds_of}
use Rattle.vtl_cell.specs.declared.kind.Kind.{Kind}
use Rattle.vtl_cell.specs.declared.kind.Kind.TheVariants as k
use Rattle.vtl_cell.specs.declared.operator.ScalarOp.{ScalarOp}
use Rattle.vtl_cell.specs.declared.operator.ScalarOp.TheVariants as op

-- the operators whose operands behind the first have to be integer literals
abbrev pub takes_literals : ScalarOp → Bool
takes_literals op.Round = true
takes_literals op.Truncate = true
takes_literals op.Substring = true
takes_literals op.PeriodShift = true
takes_literals o = false

-- the kinds of operands behind the first: what stands for an integer literal counts as one
abbrev pub counted_kinds : ScalarOp → List Kind → List Kind
counted_kinds o kinds = map (λ kind. if takes_literals o then k.Int else kind) kinds

-- the kind of an operator's value, where the operands that need not be literals meet its row
abbrev pub kind_by_operands : ScalarOp → List Kind → Option Kind
kind_by_operands o [] = kinds_of o []
kind_by_operands o (first ∷ rest) = kinds_of o (first ∷ counted_kinds o rest)
