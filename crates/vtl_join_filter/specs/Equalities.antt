-- What holds wherever a condition is true.
use Rattle.std.specs.Prelude.{◌≡◌, Bool, true, false, Some}
use Rattle.std.specs.Ordering.{is_eq}
use Rattle.vtl_decimal.specs.Settings.{Settings}
use Rattle.vtl_cell.specs.Outcomes.{is_true}
use Rattle.vtl_cell.specs.Row.{Row, column_of}
use Rattle.vtl_cell.specs.ScalarComparison.{compared}
use Rattle.vtl_cell.specs.declared.operator.ScalarOp.{ScalarOp}
use Rattle.vtl_cell.specs.declared.operator.ScalarOp.TheVariants as op
use Rattle.vtl_tree.specs.CompExp.{CompExp}
use Rattle.vtl_tree.specs.Value.{value}
use Rattle.vtl_join_filter.specs.declared.equated.Equated.{Equated}

-- another condition is true, too
abbrev pub Implies : Settings → CompExp → CompExp → Type 0
Implies p e f = (r : Row) → is_true (value p e r) ≡ true → is_true (value p f r) ≡ true

-- two columns have equal values, so neither is null
abbrev pub Equates : Settings → CompExp → Equated → Type 0
Equates p e x = (r : Row) → is_true (value p e r) ≡ true → compared is_eq p (column_of x.left r) (column_of x.right r) ≡ Some true

-- ---- operators
abbrev pub is_conjunction : ScalarOp → Bool
is_conjunction op.And = true
is_conjunction other = false

abbrev pub is_equality : ScalarOp → Bool
is_equality op.Equal = true
is_equality other = false
