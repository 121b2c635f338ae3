-- An expression fits in SQL where it stands.
use Rattle.std.proofs.Common.{◌≡◌, ℕ, ◌≤◌, Bool, true, false, [], ◌∷◌, ◌++◌, Option, Some, refl, sym, ap, subst, ◌∙◌}
use Rattle.std.specs.Prelude.{is_some}
use Rattle.vtl_cell.specs.ScalarKinds.{common_kind, meets}
use Rattle.vtl_decimal.specs.Settings.{Settings}
use Rattle.vtl_cell.specs.declared.kind.Kind.{Kind}
use Rattle.vtl_cell.specs.declared.kind.Kind.TheVariants as k
use Rattle.vtl_cell.specs.declared.operator.ScalarOp.{ScalarOp}
use Rattle.vtl_cell.specs.declared.operator.ScalarOp.TheVariants as op
use Rattle.vtl_tree.specs.CompExp as comp
use Rattle.vtl_tree.specs.CompExp.{CompExp, CompExps, no_comp_exps, comp_exp}
use Rattle.vtl_tree.specs.declared.expression.AggCall.{AggCall}
use Rattle.vtl_tree.specs.Kinds.{exp_kind}
use Rattle.vtl_meaning.specs.Literals.{HasLiterals}
use Rattle.vtl_meaning.specs.Made.{AreTypedOver, IsTypedOver, kinds_in as comp_kinds}
use Rattle.sql_tree.specs.Trees as tree
use Rattle.sql_tree.specs.Trees.{Exp, Text}
use Rattle.sql_check_laws.specs.Fits.{AllFit, Fits, IsSeen}
use Rattle.sql_check_parts.specs.Expressions.{Site}
use Rattle.sql_check_parts.specs.Kinds.{kind_in, kinds_in, operator_kind}
use Rattle.sql_check_parts.specs.Scopes.{Grouping, Scope, found}
use Rattle.expressions_to_sql.specs.Held.{AllHoldValues, HoldsValues}
use Rattle.expressions_to_sql.specs.ToSql.{Naming, aggregate_to_sql, all_to_sql, members_behind, members_to_sql, to_sql}
use Rattle.expressions_to_sql.proofs.KeptKinds.{KindsStay, first_stays, kinds_stay, rest_stay}
use Rattle.expressions_to_sql.proofs.LiteralOperands.{literals_stay}
use Rattle.expressions_to_sql.proofs.SetMembers.{AreLiterals, are_literals, members_kinds, members_there, operands_held}
use Rattle.expressions_to_sql.proofs.TypedCalls.{Form, before, between, called, chosen, form_of, listed, long, one, short, tested, three, two, unlisted}
use Rattle.expressions_to_sql.proofs.WrittenConstants.{constant_fits}

module _ (here : Site) (group : Option Grouping) (at : Naming) (low : here.settings.scale ≤ 9) (columns : ℕ → Text → Kind → Type 0) (aggregates : AggCall → Kind → Type 0) where
  abbrev p : Settings
  p = here.settings

  abbrev s : Scope
  s = here.scope

  abbrev sql : CompExp → Exp
  sql e = to_sql p at e

  set_fits : (negated : Bool) (a b : CompExp) (es : CompExps) → operator_kind op.In (exp_kind a ∷ exp_kind b ∷ comp_kinds es) ≡ Some k.Bool → AreLiterals p low columns aggregates (comp_exp b es) → KindsStay p at s (comp_exp a (comp_exp b es)) → Fits here group (sql a)
      → Fits here group (tree.in_list (sql a) negated (members_to_sql p (comp_exp b es)))
  set_fits negated a b es h m i f = (
    f,
    ap is_some (ap (λ l. operator_kind op.In (kind_in s (sql a) ∷ l)) (members_kinds p low columns aggregates (comp_exp b es) m) ∙ ap (λ q. operator_kind op.In (q ∷ comp_kinds (comp_exp b es))) (first_stays p at s a (comp_exp b es) i) ∙ h),
    members_there p low columns aggregates (comp_exp b es) m,
  )

  -- the kinds of operands that are as in VTL meet the operator
  met : (o : ScalarOp) (args : CompExps) (kind : Kind) → operator_kind o (comp_kinds args) ≡ Some kind → KindsStay p at s args → is_some (operator_kind o (kinds_in s (all_to_sql p at args))) ≡ true
  met o args kind h i = ap is_some (ap (operator_kind o) i ∙ h)

  call_fits : (o : ScalarOp) (args : CompExps) (kind : Kind) → Form o args kind → HasLiterals o args → AreTypedOver p columns aggregates args → AllHoldValues args → KindsStay p at s args → AllFit here group (all_to_sql p at args)
      → Fits here group (sql (comp.call o kind args))
  call_fits _ _ _ (tested a) l t w i f = f.0
  call_fits _ _ _ (listed a b es h) l t w i f = set_fits false a b es h (are_literals p low columns aggregates (comp_exp b es) l t.1 w.1) i f.0
  call_fits _ _ _ (unlisted a b es h) l t w i f = set_fits true a b es h (are_literals p low columns aggregates (comp_exp b es) l t.1 w.1) i f.0
  call_fits _ _ _ (chosen x a b kind m h) l t w i f =
      ((f.0, ap (meets k.Bool) (first_stays p at s x (two a b) i) ∙ m, f.1.0, tt), f.1.1.0, ap is_some (ap common_kind (rest_stay p at s x (two a b) i) ∙ h))
  call_fits _ _ _ (short a b kind h) l t w i f = ((f.0, (f.1.0, (refl, tt))), ap is_some (ap (λ ks. operator_kind op.Replace (ks ++ k.Text ∷ [])) i ∙ h), refl)
  call_fits _ _ _ (long a b d kind h) l t w i f = (f, met op.Replace (three a b d) kind h i, refl)
  call_fits _ _ _ (between o a b kind u is_two is h) l t w i f = subst (Fits here group) (sym (is (members_behind p (two a b)) (all_to_sql p at (two a b)))) (f.0, f.1.0, met o (two a b) kind h i)
  call_fits _ _ _ (before o a kind is_one is h) l t w i f = subst (Fits here group) (sym (is (members_behind p (one a)) (all_to_sql p at (one a)))) (f.0, met o (one a) kind h i)
  call_fits _ _ _ (called o a es kind is_call is h) l t w i f =
      subst (Fits here group) (sym (is (members_behind p (comp_exp a es)) (all_to_sql p at (comp_exp a es))))
      (f, met o (comp_exp a es) kind h i, literals_stay p at columns aggregates o (comp_exp a es) l t)

  module _ (seen : (place : ℕ) (name : Text) (kind : Kind) → columns place name kind → IsSeen s group (at place name))
      (known : (place : ℕ) (name : Text) (kind : Kind) → columns place name kind → found s (at place name) ≡ Some kind)
      (fit : (a : AggCall) (kind : Kind) → aggregates a kind → Fits here group (aggregate_to_sql at a.kind a.component))
      (given : (a : AggCall) (kind : Kind) → aggregates a kind → kind_in s (aggregate_to_sql at a.kind a.component) ≡ kind) where
    mutual
      pub expression_fits : (e : CompExp) → IsTypedOver p columns aggregates e → HoldsValues e → Fits here group (sql e)
      expression_fits (comp.column place name kind) i w = seen place name kind i
      expression_fits (comp.const v) i w = constant_fits here group low v w i
      expression_fits (comp.call o kind args) i w =
          let held = operands_held o args i.2 w in
          call_fits o args kind (form_of o args kind i.2 i.0) i.2 i.1 held (kinds_stay p at s columns aggregates known given args i.1) (expressions_fit args i.1 held)
      expression_fits (comp.aggregate a kind) i w = fit a kind i

      expressions_fit : (es : CompExps) → AreTypedOver p columns aggregates es → AllHoldValues es → AllFit here group (all_to_sql p at es)
      expressions_fit no_comp_exps i w = tt
      expressions_fit (comp_exp e es) i w = (expression_fits e i.0 w.0, expressions_fit es i.1 w.1)
