-- Expressions over points see columns, and no aggregates.
use Rattle.std.proofs.Common.{◌≡◌, ℕ, ◌≤◌, List, ◌∷◌, None, Some, Ok, refl, ap, ◌∙◌}
use Rattle.std.specs.Prelude.{is_some}
use Rattle.vtl_cell.specs.Outcome.{Outcome}
use Rattle.vtl_cell.specs.Row.{Row, column_of}
use Rattle.vtl_decimal.specs.Settings.{Settings}
use Rattle.vtl_cell.specs.declared.cell.Cell.{Cell}
use Rattle.vtl_cell.specs.declared.cell.Cell.TheVariants as c
use Rattle.vtl_cell.specs.declared.kind.Kind.{Kind}
use Rattle.vtl_tree.specs.CompExp.{CompExp, CompExps, column, const, call, aggregate, no_comp_exps, comp_exp}
use Rattle.vtl_tree.specs.Value as points
use Rattle.vtl_tree.specs.declared.expression.AggCall.{AggCall}
use Rattle.vtl_tree.specs.declared.structure.Component.{Component}
use Rattle.vtl_tree.specs.Kinds.{exp_kind}
use Rattle.vtl_meaning.specs.Made.{AreTyped, AreTypedOver, IsColumnAt, IsTyped, IsTypedOver}
use Rattle.sql_tree.specs.Formed.{Formed}
use Rattle.sql_tree.specs.Trees.{Text}
use Rattle.sql_check_laws.specs.Fits.{Fits}
use Rattle.sql_check_parts.specs.Expressions.{site}
use Rattle.sql_check_parts.specs.Kinds.{kind_in}
use Rattle.sql_check_parts.specs.Scopes.{Scope, Tables, found}
use Rattle.sql_meaning.specs.Tables.{Base}
use Rattle.sql_meaning.specs.Values.{at_rows, value}
use Rattle.vtl_meaning.specs.GroupExpressions.{value_over, values_over}
use Rattle.expressions_to_sql.specs.Held.{HoldsValues}
use Rattle.expressions_to_sql.specs.Names.{AreNamesFormed, Names, Shows}
use Rattle.expressions_to_sql.specs.ToSql.{Naming, to_sql}
use Rattle.expressions_to_sql.proofs.FittingExpressions.{expression_fits}
use Rattle.expressions_to_sql.proofs.FormedExpressions.{expression_formed}
use Rattle.expressions_to_sql.proofs.KeptKinds.{kind_stays}
use Rattle.expressions_to_sql.proofs.KeptValues.{value_stays}

-- ---- typed expressions and their values

abbrev columns : List Component → ℕ → Text → Kind → Type 0
columns xs place name kind = IsColumnAt place name kind xs

abbrev no_aggregates : AggCall → Kind → Type 0
no_aggregates a kind = ⊥

mutual
  typed : (p : Settings) (xs : List Component) (e : CompExp) → IsTyped p xs e → IsTypedOver p (columns xs) no_aggregates e
  typed p xs (column place name kind) i = i
  typed p xs (const v) i = i
  typed p xs (call o kind args) i = (i.0, all_typed p xs args i.1, i.2)
  typed p xs (aggregate a kind) i = i

  all_typed : (p : Settings) (xs : List Component) (es : CompExps) → AreTyped p xs es → AreTypedOver p (columns xs) no_aggregates es
  all_typed p xs no_comp_exps i = tt
  all_typed p xs (comp_exp e es) i = (typed p xs e i.0, all_typed p xs es i.1)

abbrev cells : Row → ℕ → Text → Cell
cells r place name = column_of place r

abbrev nothing : AggCall → Outcome Cell
nothing a = Ok c.Null

mutual
  at_point : (p : Settings) (r : Row) (e : CompExp) → value_over p (cells r) nothing e ≡ points.value p e r
  at_point p r (column place name kind) = refl
  at_point p r (const v) = refl
  at_point p r (call o kind args) = ap (λ ms. points.called p kind ms o) (all_at_point p r args)
  at_point p r (aggregate a kind) = refl

  all_at_point : (p : Settings) (r : Row) (es : CompExps) → values_over p (cells r) nothing es ≡ points.values p es r
  all_at_point p r no_comp_exps = refl
  all_at_point p r (comp_exp e es) = λ i. at_point p r e i ∷ all_at_point p r es i

-- ---- where sources show a point that is made of a row

abbrev AreKnown : Naming → Scope → List Component → Type 0
AreKnown at scope xs = (place : ℕ) (name : Text) (kind : Kind) → IsColumnAt place name kind xs → found scope (at place name) ≡ Some kind

known_kind : (p : Settings) (at : Naming) (scope : Scope) (xs : List Component) → AreKnown at scope xs → (e : CompExp) → IsTyped p xs e → kind_in scope (to_sql p at e) ≡ exp_kind e
known_kind p at scope xs known e i = kind_stays p at scope (columns xs) no_aggregates known (λ a kind h. absurd h) e (typed p xs e i)

known_fits : (p : Settings) (tables : Tables) (at : Naming) (scope : Scope) (xs : List Component) → p.scale ≤ 9 → AreKnown at scope xs → (e : CompExp) → IsTyped p xs e → HoldsValues e → Fits (site p tables scope) None (to_sql p at e)
known_fits p tables at scope xs low known e i w =
    expression_fits (site p tables scope) None at low (columns xs) no_aggregates
    (λ place name kind h. (ap is_some (known place name kind h), refl)) known (λ a kind h. absurd h) (λ a kind h. absurd h) e (typed p xs e i) w

module _ (at : Naming) (scope : Scope) (xs : List Component) (point : Row → Row) (h : Shows at scope xs point) where
  pub shown_kind : (p : Settings) (e : CompExp) → IsTyped p xs e → kind_in scope (to_sql p at e) ≡ exp_kind e
  shown_kind p e i = known_kind p at scope xs h.known e i

  pub shown_fits : (p : Settings) (tables : Tables) → p.scale ≤ 9 → (e : CompExp) → IsTyped p xs e → HoldsValues e → Fits (site p tables scope) None (to_sql p at e)
  shown_fits p tables low e i w = known_fits p tables at scope xs low h.known e i w

  -- an expression has at a row the value that it has in VTL at the point
  pub shown_value : (b : Base) (r : Row) (g : List Row) → b.settings.scale ≤ 9 → (e : CompExp) → IsTyped b.settings xs e → HoldsValues e → value (at_rows b scope) (to_sql b.settings at e) r g ≡ points.value b.settings e (point r)
  shown_value b r g low e i w =
      value_stays (at_rows b scope) r g at (cells (point r)) nothing low (columns xs) no_aggregates
      h.known (λ a kind k. absurd k) (λ place name kind k. h.shown place name kind k r) (λ a kind k. absurd k) e (typed b.settings xs e i) w
      ∙ at_point b.settings (point r) e

-- ---- laws

shows_itself : (at : Naming) (scope : Scope) (xs : List Component) → Names at scope xs → Shows at scope xs (λ r. r)
shows_itself at scope xs names = record { known = names.known; shown = λ place name kind h r. ap (λ n. column_of n r) (names.placed place name kind h) }

pub point_kind : (p : Settings) (at : Naming) (scope : Scope) (xs : List Component) → Names at scope xs → (e : CompExp) → IsTyped p xs e → kind_in scope (to_sql p at e) ≡ exp_kind e
point_kind p at scope xs names e i = known_kind p at scope xs names.known e i

pub point_value : (b : Base) (at : Naming) (scope : Scope) (xs : List Component) (r : Row) (g : List Row) → b.settings.scale ≤ 9 → Names at scope xs → (e : CompExp) → IsTyped b.settings xs e → HoldsValues e → value (at_rows b scope) (to_sql b.settings at e) r g ≡ points.value b.settings e r
point_value b at scope xs r g low names e i w = shown_value at scope xs (λ q. q) (shows_itself at scope xs names) b r g low e i w

pub point_fits : (p : Settings) (tables : Tables) (at : Naming) (scope : Scope) (xs : List Component) → p.scale ≤ 9 → Names at scope xs → (e : CompExp) → IsTyped p xs e → HoldsValues e → Fits (site p tables scope) None (to_sql p at e)
point_fits p tables at scope xs low names e i w = known_fits p tables at scope xs low names.known e i w

pub point_formed : (p : Settings) (at : Naming) (xs : List Component) → p.scale ≤ 9 → AreNamesFormed at xs → (e : CompExp) → IsTyped p xs e → HoldsValues e → Formed (to_sql p at e)
point_formed p at xs low names e i w = expression_formed p low at (columns xs) no_aggregates names (λ a kind h. absurd h) e (typed p xs e i) w
