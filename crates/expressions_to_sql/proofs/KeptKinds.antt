-- An expression has in SQL the kind that it has in VTL.
use Rattle.std.proofs.Common.{◌≡◌, ℕ, [], ◌∷◌, ◌++◌, Some, refl, ap, ◌∙◌}
use Rattle.vtl_cell.specs.ScalarKinds.{common_kind}
use Rattle.vtl_decimal.specs.Settings.{Settings}
use Rattle.vtl_cell.specs.declared.kind.Kind.{Kind}
use Rattle.vtl_cell.specs.declared.kind.Kind.TheVariants as k
use Rattle.vtl_cell.specs.declared.operator.ScalarOp.{ScalarOp}
use Rattle.vtl_cell.specs.declared.operator.ScalarOp.TheVariants as op
use Rattle.vtl_tree.specs.CompExp as comp
use Rattle.vtl_tree.specs.CompExp.{CompExp, CompExps, no_comp_exps, comp_exp}
use Rattle.vtl_tree.specs.declared.expression.AggCall.{AggCall}
use Rattle.vtl_tree.specs.Kinds.{exp_kind}
use Rattle.vtl_meaning.specs.Made.{AreTypedOver, IsTypedOver, kinds_in as comp_kinds}
use Rattle.sql_tree.specs.Trees.{Text}
use Rattle.sql_check_parts.specs.Kinds.{kind_in, kinds_in, operator_kind}
use Rattle.sql_check_parts.specs.Scopes.{Scope, found, or_null}
use Rattle.expressions_to_sql.specs.ToSql.{Naming, aggregate_to_sql, all_to_sql, members_behind, to_sql}
use Rattle.expressions_to_sql.proofs.TypedCalls.{Form, before, between, called, chosen, form_of, listed, long, one, short, tested, two, unlisted}
use Rattle.expressions_to_sql.proofs.WrittenConstants.{const_kind}

module _ (p : Settings) (at : Naming) (s : Scope) where
  abbrev sql : CompExp → Kind
  sql e = kind_in s (to_sql p at e)

  abbrev pub KindsStay : CompExps → Type 0
  KindsStay es = kinds_in s (all_to_sql p at es) ≡ comp_kinds es

  pub first_stays : (a : CompExp) (es : CompExps) → KindsStay (comp_exp a es) → sql a ≡ exp_kind a
  first_stays a es i = cc

  pub rest_stay : (a : CompExp) (es : CompExps) → KindsStay (comp_exp a es) → KindsStay es
  rest_stay a es i = cc

  pub call_kind : (o : ScalarOp) (args : CompExps) (kind : Kind) → Form o args kind → KindsStay args → sql (comp.call o kind args) ≡ kind
  call_kind _ _ _ (tested a) i = refl
  call_kind _ _ _ (listed a b es h) i = refl
  call_kind _ _ _ (unlisted a b es h) i = refl
  call_kind _ _ _ (chosen t a b kind m h) i = ap or_null (ap common_kind (rest_stay t (two a b) i) ∙ h)
  call_kind _ _ _ (short a b kind h) i = ap or_null (ap (λ l. operator_kind op.Replace (l ++ k.Text ∷ [])) i ∙ h)
  call_kind _ _ _ (long a b d kind h) i = ap or_null (ap (operator_kind op.Replace) i ∙ h)
  call_kind _ _ _ (between o a b kind u is_two is h) i = ap (kind_in s) (is (members_behind p (two a b)) (all_to_sql p at (two a b))) ∙ ap or_null (ap (operator_kind o) i ∙ h)
  call_kind _ _ _ (before o a kind is_one is h) i = ap (kind_in s) (is (members_behind p (one a)) (all_to_sql p at (one a))) ∙ ap or_null (ap (operator_kind o) i ∙ h)
  call_kind _ _ _ (called o a es kind is_call is h) i = ap (kind_in s) (is (members_behind p (comp_exp a es)) (all_to_sql p at (comp_exp a es))) ∙ ap or_null (ap (operator_kind o) i ∙ h)

  module _ (columns : ℕ → Text → Kind → Type 0) (aggregates : AggCall → Kind → Type 0)
      (known : (place : ℕ) (name : Text) (kind : Kind) → columns place name kind → found s (at place name) ≡ Some kind)
      (given : (a : AggCall) (kind : Kind) → aggregates a kind → kind_in s (aggregate_to_sql at a.kind a.component) ≡ kind) where
    mutual
      pub kind_stays : (e : CompExp) → IsTypedOver p columns aggregates e → sql e ≡ exp_kind e
      kind_stays (comp.column place name kind) i = ap or_null (known place name kind i)
      kind_stays (comp.const v) i = const_kind s p v
      kind_stays (comp.call o kind args) i = call_kind o args kind (form_of o args kind i.2 i.0) (kinds_stay args i.1)
      kind_stays (comp.aggregate a kind) i = given a kind i

      pub kinds_stay : (es : CompExps) → AreTypedOver p columns aggregates es → KindsStay es
      kinds_stay no_comp_exps i = refl
      kinds_stay (comp_exp e es) i = ap (λ x. x ∷ kinds_in s (all_to_sql p at es)) (kind_stays e i.0) ∙ ap (λ l. exp_kind e ∷ l) (kinds_stay es i.1)
