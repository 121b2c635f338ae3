-- Operands that have to be literals are literals in SQL, in the same intervals.
use Rattle.std.proofs.Common.{◌≡◌, ℕ, ℤ, pos, negsuc, true, ◌&&◌, Some, refl, ap, ◌∙◌, arith}
use Rattle.std.proofs.lemmas.Bool.{and_parts}
use Rattle.vtl_decimal.specs.Settings.{Settings}
use Rattle.vtl_cell.specs.declared.cell.Cell.TheVariants as c
use Rattle.vtl_cell.specs.declared.kind.Kind.{Kind}
use Rattle.vtl_cell.specs.declared.operator.ScalarOp.{ScalarOp}
use Rattle.vtl_cell.specs.declared.operator.ScalarOp.TheVariants as op
use Rattle.vtl_cell.specs.Literals.{largest_place, lies_between}
use Rattle.vtl_tree.specs.CompExp as comp
use Rattle.vtl_tree.specs.CompExp.{CompExp, CompExps, no_comp_exps, comp_exp}
use Rattle.vtl_tree.specs.declared.expression.AggCall.{AggCall}
use Rattle.vtl_meaning.specs.Literals as vtl
use Rattle.vtl_meaning.specs.Literals.{HasLiterals, is_integer}
use Rattle.sql_tree.specs.Trees.{Text}
use Rattle.sql_check_parts.specs.Literals.{are_digits, integer_in, is_size, literals_fit}
use Rattle.vtl_meaning.specs.Made.{AreTypedOver, IsTypedOver}
use Rattle.expressions_to_sql.specs.ToSql.{Naming, all_to_sql, to_sql}
use Rattle.expressions_to_sql.proofs.WrittenConstants.{integer_there}

module _ (p : Settings) (at : Naming) (columns : ℕ → Text → Kind → Type 0) (aggregates : AggCall → Kind → Type 0) where
  abbrev IsTyped : CompExp → Type 0
  IsTyped e = IsTypedOver p columns aggregates e

  -- a number below zero lies in no interval from zero on
  below_none : (low n : ℕ) (high : ℤ) → lies_between (pos low) high (Some (negsuc n)) ≡ true → ⊥
  below_none low n high h = grind arith

  integer_stays : (low : ℕ) (high : ℤ) (e : CompExp) → is_integer (pos low) high e ≡ true → IsTyped e → lies_between (pos low) high (integer_in p (to_sql p at e)) ≡ true
  integer_stays low high (comp.const (c.Int (pos n))) d i = ap (lies_between (pos low) high) (integer_there p n i) ∙ d
  integer_stays low high (comp.const (c.Int (negsuc n))) d i = absurd (below_none low n high d)
  integer_stays low high (comp.const c.Null) d i = cc
  integer_stays low high (comp.const (c.Bool b)) d i = cc
  integer_stays low high (comp.const (c.Num b)) d i = cc
  integer_stays low high (comp.const (c.Text b)) d i = cc
  integer_stays low high (comp.const (c.Day b)) d i = cc
  integer_stays low high (comp.const (c.Period b)) d i = cc
  integer_stays low high (comp.column place name kind) d i = cc
  integer_stays low high (comp.call o kind args) d i = cc
  integer_stays low high (comp.aggregate a kind) d i = cc

  digits_stay : (e : CompExp) → vtl.are_digits e ≡ true → IsTyped e → are_digits p (to_sql p at e) ≡ true
  digits_stay (comp.const (c.Int (pos n))) d i = integer_stays 0 (pos 9) (comp.const (c.Int (pos n))) d i
  digits_stay (comp.const (c.Int (negsuc n))) d i = absurd (below_none 0 n (pos 9) d)
  digits_stay (comp.const c.Null) d i = cc
  digits_stay (comp.const (c.Bool b)) d i = cc
  digits_stay (comp.const (c.Num b)) d i = cc
  digits_stay (comp.const (c.Text b)) d i = cc
  digits_stay (comp.const (c.Day b)) d i = cc
  digits_stay (comp.const (c.Period b)) d i = cc
  digits_stay (comp.column place name kind) d i = cc
  digits_stay (comp.aggregate a kind) d i = cc
  digits_stay (comp.call op.Negate kind (comp_exp e no_comp_exps)) d i = integer_stays 0 (pos 9) e d i.1.0
  digits_stay (comp.call op.Negate kind no_comp_exps) d i = cc
  digits_stay (comp.call op.Negate kind (comp_exp e (comp_exp f es))) d i = cc
  digits_stay (comp.call o kind args) d i = cc

  pub literals_stay : (o : ScalarOp) (args : CompExps) → HasLiterals o args → AreTypedOver p columns aggregates args → literals_fit p o (all_to_sql p at args) ≡ true
  literals_stay op.Round (comp_exp a (comp_exp d es)) l i = digits_stay d l i.1.0
  literals_stay op.Round no_comp_exps l i = refl
  literals_stay op.Round (comp_exp a no_comp_exps) l i = refl
  literals_stay op.Truncate (comp_exp a (comp_exp d es)) l i = digits_stay d l i.1.0
  literals_stay op.Truncate no_comp_exps l i = refl
  literals_stay op.Truncate (comp_exp a no_comp_exps) l i = refl
  literals_stay op.Substring (comp_exp a (comp_exp b no_comp_exps)) l i = ap (λ x. x && true) (integer_stays 1 largest_place b (and_parts (is_integer (pos 1) largest_place b) true l).0 i.1.0)
  literals_stay op.Substring (comp_exp a (comp_exp b (comp_exp n es))) l i =
      let parts = and_parts (is_integer (pos 1) largest_place b) (is_integer (pos 0) largest_place n) l in
      ap (λ x. x && is_size p (to_sql p at n)) (integer_stays 1 largest_place b parts.0 i.1.0) ∙ integer_stays 0 largest_place n parts.1 i.1.1.0
  literals_stay op.Substring no_comp_exps l i = refl
  literals_stay op.Substring (comp_exp a no_comp_exps) l i = refl
  literals_stay op.PeriodShift args l i = cc
  literals_stay o args l i = refl
