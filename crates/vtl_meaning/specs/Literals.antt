-- Operands that have to be literals, as typed trees hold them.
use Rattle.std.specs.Prelude.{◌≡◌, ℤ, pos, Bool, true, false, not, ◌&&◌, Some}
use Rattle.vtl_cell.specs.Kinds.{is_null}
use Rattle.vtl_cell.specs.declared.cell.Cell.TheVariants as c
use Rattle.vtl_cell.specs.declared.operator.ScalarOp.{ScalarOp}
use Rattle.vtl_cell.specs.declared.operator.ScalarOp.TheVariants as op
use Rattle.vtl_cell.specs.Literals.{largest_place, lies_between}
use Rattle.vtl_tree.specs.CompExp.{CompExp, CompExps, call, comp_exp, const, no_comp_exps}

-- the most digits behind the point that `round` and `trunc` may be asked for, and before it
abbrev pub most_digits : ℤ
most_digits = pos 9

-- an integer in this interval
abbrev pub is_integer : ℤ → ℤ → CompExp → Bool
is_integer low high (const (c.Int n)) = lies_between low high (Some n)
is_integer low high e = false

-- the digits of `round` and `trunc`: one `-` may stand before the integer
abbrev pub are_digits : CompExp → Bool
are_digits (call op.Negate kind (comp_exp e no_comp_exps)) = is_integer (pos 0) most_digits e
are_digits e = is_integer (pos 0) most_digits e

-- a member of a set
abbrev pub is_member : CompExp → Bool
is_member (const v) = not (is_null v)
is_member e = false

abbrev pub all_pass : (CompExp → Bool) → CompExps → Bool
all_pass test no_comp_exps = true
all_pass test (comp_exp e es) = test e && all_pass test es

-- the first of these, if there is one, passes
abbrev pub first_passes : (CompExp → Bool) → CompExps → Bool
first_passes test no_comp_exps = true
first_passes test (comp_exp e es) = test e

-- the expressions behind the first
abbrev pub behind : CompExps → CompExps
behind no_comp_exps = no_comp_exps
behind (comp_exp e es) = es

-- Whether the operands behind the first are literals where the operator asks for them: the digits of `round` and `trunc`, the
-- start and the length of `substr`, and the members of a set. Of an operator that no script can spell, nothing passes.
abbrev pub are_literals : ScalarOp → CompExps → Bool
are_literals op.Round es = first_passes are_digits es
are_literals op.Truncate es = first_passes are_digits es
are_literals op.Substring es = first_passes (is_integer (pos 1) largest_place) es && first_passes (is_integer (pos 0) largest_place) (behind es)
are_literals op.In es = all_pass is_member es
are_literals op.NotIn es = all_pass is_member es
are_literals op.PeriodShift es = false
are_literals op.PeriodFrequency es = false
are_literals o es = true

abbrev pub HasLiterals : ScalarOp → CompExps → Type 0
HasLiterals o args = are_literals o (behind args) ≡ true
