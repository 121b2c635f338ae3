-- An expression has in SQL the form that the grammar spells.
use Rattle.std.proofs.Common.{ℕ, ◌≤◌, refl, sym, subst, arith}
use Rattle.vtl_decimal.specs.Settings.{Settings}
use Rattle.vtl_cell.specs.declared.kind.Kind.{Kind}
use Rattle.vtl_cell.specs.declared.operator.ScalarOp.{ScalarOp}
use Rattle.vtl_tree.specs.CompExp as comp
use Rattle.vtl_tree.specs.CompExp.{CompExp, CompExps, no_comp_exps, comp_exp}
use Rattle.vtl_tree.specs.declared.expression.AggCall.{AggCall}
use Rattle.vtl_meaning.specs.Literals.{HasLiterals}
use Rattle.sql_tree.specs.Formed.{EachFormed, Formed, IsColumn}
use Rattle.sql_tree.specs.Trees.{Text}
use Rattle.vtl_meaning.specs.Made.{AreTypedOver, IsTypedOver}
use Rattle.expressions_to_sql.specs.Held.{AllHoldValues, HoldsValues}
use Rattle.expressions_to_sql.specs.ToSql.{Naming, aggregate_to_sql, all_to_sql, members_behind, to_sql}
use Rattle.expressions_to_sql.proofs.FormedConstants.{const_formed}
use Rattle.expressions_to_sql.proofs.SetMembers.{are_literals, members_formed, operands_held}
use Rattle.expressions_to_sql.proofs.TypedCalls.{Form, before, between, called, chosen, form_of, listed, long, one, short, tested, two, unlisted}

module _ (p : Settings) (low : p.scale ≤ 9) (at : Naming) (columns : ℕ → Text → Kind → Type 0) (aggregates : AggCall → Kind → Type 0) where
  call_formed : (o : ScalarOp) (args : CompExps) (kind : Kind) → Form o args kind → HasLiterals o args → AreTypedOver p columns aggregates args → AllHoldValues args → EachFormed (all_to_sql p at args) → Formed (to_sql p at (comp.call o kind args))
  call_formed _ _ _ (tested a) l t w f = f.0
  call_formed _ _ _ (listed a b es h) l t w f = (f.0, omega arith, members_formed p low columns aggregates (comp_exp b es) (are_literals p low columns aggregates (comp_exp b es) l t.1 w.1))
  call_formed _ _ _ (unlisted a b es h) l t w f = (f.0, omega arith, members_formed p low columns aggregates (comp_exp b es) (are_literals p low columns aggregates (comp_exp b es) l t.1 w.1))
  call_formed _ _ _ (chosen x a b kind m h) l t w f = (tt, (f.0, f.1.0, tt), f.1.1.0)
  call_formed _ _ _ (short a b kind h) l t w f = (refl, tt, (f.0, (f.1.0, (tt, tt))))
  call_formed _ _ _ (long a b d kind h) l t w f = (refl, tt, f)
  call_formed _ _ _ (between o a b kind u is_two is h) l t w f = subst Formed (sym (is (members_behind p (two a b)) (all_to_sql p at (two a b)))) (is_two, f.0, f.1.0)
  call_formed _ _ _ (before o a kind is_one is h) l t w f = subst Formed (sym (is (members_behind p (one a)) (all_to_sql p at (one a)))) (is_one, f.0)
  call_formed _ _ _ (called o a es kind is_call is h) l t w f = subst Formed (sym (is (members_behind p (comp_exp a es)) (all_to_sql p at (comp_exp a es)))) (is_call, tt, f)

  module _ (named : (place : ℕ) (name : Text) (kind : Kind) → columns place name kind → IsColumn (at place name))
      (fine : (a : AggCall) (kind : Kind) → aggregates a kind → Formed (aggregate_to_sql at a.kind a.component)) where
    mutual
      pub expression_formed : (e : CompExp) → IsTypedOver p columns aggregates e → HoldsValues e → Formed (to_sql p at e)
      expression_formed (comp.column place name kind) i w = named place name kind i
      expression_formed (comp.const v) i w = const_formed p low v w i
      expression_formed (comp.call o kind args) i w =
          let held = operands_held o args i.2 w in
          call_formed o args kind (form_of o args kind i.2 i.0) i.2 i.1 held (expressions_formed args i.1 held)
      expression_formed (comp.aggregate a kind) i w = fine a kind i

      expressions_formed : (es : CompExps) → AreTypedOver p columns aggregates es → AllHoldValues es → EachFormed (all_to_sql p at es)
      expressions_formed no_comp_exps i w = tt
      expressions_formed (comp_exp e es) i w = (expression_formed e i.0 w.0, expressions_formed es i.1 w.1)
