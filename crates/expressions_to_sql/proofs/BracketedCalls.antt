-- Calls that are written before operands in brackets.
use Rattle.std.proofs.Common.{◌≡◌, Bool, true, false, List, [], ◌∷◌, length, map, refl, arith}
use Rattle.std.specs.Prelude.{nat_lt, ℕ, suc}
use Rattle.vtl_decimal.specs.Settings.{Settings}
use Rattle.vtl_cell.specs.declared.operator.ScalarOp.{ScalarOp}
use Rattle.vtl_cell.specs.declared.operator.ScalarOp.TheVariants as op
use Rattle.vtl_tree.specs.View.{comp_exp_of, comp_exps_of}
use Rattle.vtl_tree.specs.declared.expression.CompExpr.{CompExpr}
use Rattle.sql_tree.specs.Trees as tree
use Rattle.expressions_to_sql.specs.CallForms.{form_at, set_at}
use Rattle.expressions_to_sql.specs.Held.{AllHold, OperandsHold, asks_a_set}
use Rattle.expressions_to_sql.specs.ToSql.{Naming, all_to_sql, call_to_sql}
use Rattle.expressions_to_sql.specs.declared.forms.CallForm.TheVariants.{InBrackets, Set}

-- behind an operand there is a set
some_set : (n : ℕ) (negated : Bool) → set_at (suc n) negated ≡ Set negated
some_set n negated = let some : nat_lt 0 (suc n) ≡ true = grind arith in rw some refl

module _ (p : Settings) (at : Naming) where
  pub bracketed : (o : ScalarOp) (args : List CompExpr) → form_at o (length args) ≡ InBrackets → call_to_sql p at o (comp_exps_of (map comp_exp_of args)) ≡ tree.call o (all_to_sql p at (comp_exps_of (map comp_exp_of args)))
  bracketed op.IsNull [] h = refl
  bracketed op.IsNull (a ∷ []) h = cc
  bracketed op.IsNull (a ∷ b ∷ es) h = refl
  bracketed op.In [] h = refl
  bracketed op.In (a ∷ es) h = let set = some_set (length es) false in cc
  bracketed op.NotIn [] h = refl
  bracketed op.NotIn (a ∷ es) h = let set = some_set (length es) true in cc
  bracketed op.If [] h = refl
  bracketed op.If (a ∷ []) h = refl
  bracketed op.If (a ∷ b ∷ []) h = refl
  bracketed op.If (a ∷ b ∷ d ∷ []) h = cc
  bracketed op.If (a ∷ b ∷ d ∷ e ∷ es) h = refl
  bracketed op.Replace [] h = refl
  bracketed op.Replace (a ∷ []) h = refl
  bracketed op.Replace (a ∷ b ∷ []) h = cc
  bracketed op.Replace (a ∷ b ∷ d ∷ es) h = refl
  bracketed o [] h = cc
  bracketed o (a ∷ []) h = cc
  bracketed o (a ∷ b ∷ []) h = cc
  bracketed o (a ∷ b ∷ d ∷ es) h = refl

pub bracketed_hold : (o : ScalarOp) (args : List CompExpr) → form_at o (length args) ≡ InBrackets → AllHold false (comp_exps_of (map comp_exp_of args)) → OperandsHold (asks_a_set o) (comp_exps_of (map comp_exp_of args))
bracketed_hold o [] h all = tt
bracketed_hold op.In (a ∷ es) h all = let set = some_set (length es) false in cc
bracketed_hold op.NotIn (a ∷ es) h all = let set = some_set (length es) true in cc
bracketed_hold o (a ∷ es) h all = all
