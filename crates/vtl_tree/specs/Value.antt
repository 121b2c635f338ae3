-- The value of a component expression at a point.
use Rattle.std.specs.Prelude.{ℕ, ◌==◌, Bool, false, Ok, List, [], ◌∷◌}
use Rattle.vtl_decimal.specs.Settings.{Settings}
use Rattle.vtl_cell.specs.declared.cell.Cell.{Cell}
use Rattle.vtl_cell.specs.declared.cell.Cell.TheVariants as c
use Rattle.vtl_cell.specs.declared.kind.Kind.{Kind}
use Rattle.vtl_cell.specs.declared.operator.ScalarOp.{ScalarOp}
use Rattle.vtl_cell.specs.declared.operator.ScalarOp.TheVariants as op
use Rattle.vtl_cell.specs.Conversion.{as_kind}
use Rattle.vtl_cell.specs.Row.{Row, column_of}
use Rattle.vtl_cell.specs.Outcome.{Outcome, after}
use Rattle.vtl_cell.specs.Outcomes.{all_of, branch, first_chosen, result_of}
use Rattle.vtl_tree.specs.CompExp.{CompExp, CompExps, column, const, call, aggregate, no_comp_exps, comp_exp}

-- whether a call is `if` with its three operands
abbrev pub is_choice : ScalarOp → ℕ → Bool
is_choice op.If n = n == 3
is_choice other n = false

-- the value of an operator whose operands have these values or faults: the branch that `if` does not choose counts for nothing
abbrev pub called : Settings → Kind → List (Outcome Cell) → ScalarOp → Outcome Cell
called p kind (test ∷ a ∷ b ∷ []) op.If = after test (λ t. after (branch (first_chosen t) a b) (as_kind p kind))
called p kind operands o = after (all_of operands) (result_of p o kind)

abbrev mutual
  pub value : Settings → CompExp → Row → Outcome Cell
  value p (column place name kind) row = Ok (column_of place row)
  value p (const v) row = Ok v
  value p (call o kind args) row = called p kind (values p args row) o
  -- an aggregate has a value over a group, and none at a point; no typed expression over points holds one
  value p (aggregate a kind) row = Ok c.Null

  -- of each operand
  pub values : Settings → CompExps → Row → List (Outcome Cell)
  values p no_comp_exps row = []
  values p (comp_exp e es) row = value p e row ∷ values p es row
