-- Conditions that have no fault, whatever the cells of a point are.
use Rattle.std.specs.Prelude.{Bool, true, false, not, ◌&&◌}
use Rattle.vtl_cell.specs.Kinds.{same_kind}
use Rattle.vtl_cell.specs.declared.kind.Kind.TheVariants as k
use Rattle.vtl_cell.specs.declared.operator.ScalarOp.{ScalarOp}
use Rattle.vtl_cell.specs.declared.operator.ScalarOp.TheVariants as op
use Rattle.vtl_tree.specs.CompExp.{CompExp, CompExps, aggregate, call, column, comp_exp, const, no_comp_exps}

-- operators that have a value at all operands
abbrev pub is_total : ScalarOp → Bool
is_total op.Equal = true
is_total op.NotEqual = true
is_total op.Less = true
is_total op.LessOrEqual = true
is_total op.Greater = true
is_total op.GreaterOrEqual = true
is_total op.Between = true
is_total op.In = true
is_total op.NotIn = true
is_total op.And = true
is_total op.Or = true
is_total op.Xor = true
is_total op.Not = true
is_total op.IsNull = true
is_total op.Identity = true
is_total op.Trim = true
is_total op.TrimLeft = true
is_total op.TrimRight = true
is_total op.Concat = true
is_total op.Substring = true
is_total op.Replace = true
is_total op.PeriodFrequency = true
is_total other = false

-- It is made of columns, constants and such operators. None gives numbers: an integer among these may be out of their range.
abbrev mutual
  pub is_safe : CompExp → Bool
  is_safe (column place name kind) = true
  is_safe (const v) = true
  is_safe (call o kind args) = (is_total o && not (same_kind k.Num kind)) && are_safe args
  is_safe (aggregate a kind) = false

  pub are_safe : CompExps → Bool
  are_safe no_comp_exps = true
  are_safe (comp_exp e es) = is_safe e && are_safe es
