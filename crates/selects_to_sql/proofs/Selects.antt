-- A select whose items are translated expressions gives a point of their values for each row.
use Rattle.std.proofs.Common.{◌≡◌, true, List, [], ◌∷◌, map, Option, Some, None, Ok, Err, refl, ap, ◌∙◌, subst, arith}
use Rattle.std.specs.Prelude.{IfOk}
use Rattle.vtl_cell.specs.Kinds.{is_of}
use Rattle.vtl_cell.specs.Outcome.{Outcome, after, fault_in, faults_by, join, unless}
use Rattle.vtl_cell.specs.Row.{Row}
use Rattle.vtl_cell.specs.ScalarKinds.{meets}
use Rattle.vtl_decimal.specs.Settings.{Settings}
use Rattle.vtl_cell.specs.declared.kind.Kind.TheVariants as k
use Rattle.vtl_tree.specs.CompExp.{CompExp}
use Rattle.vtl_tree.specs.DataSet.{is_point}
use Rattle.vtl_tree.specs.Structure.{columns_of}
use Rattle.vtl_tree.specs.Value.{value}
use Rattle.vtl_tree.specs.declared.structure.Component.{Component}
use Rattle.vtl_tree.specs.declared.structure.Structure.{Structure}
use Rattle.vtl_tree.specs.Kinds.{exp_kind}
use Rattle.vtl_meaning.specs.Made.{AreFor, IsTyped}
use Rattle.vtl_meaning.specs.Points.{cell_or_null, each_point, point_fault, point_of}
use Rattle.vtl_meaning.proofs.ValueKinds.{value_is_of}
use Rattle.sql_tree.specs.Formed.{IsExp, IsMaybeExp}
use Rattle.sql_tree.specs.Trees.{Exp, JoinTree}
use Rattle.sql_tree.specs.declared.parts.Source.{Source}
use Rattle.sql_check_laws.specs.Fits.{IsCondition, IsMaybeCondition}
use Rattle.sql_check_parts.specs.Expressions.{site}
use Rattle.sql_check_parts.specs.Scopes.{Scope, Tables}
use Rattle.sql_meaning.specs.From.{source_rows}
use Rattle.sql_meaning.specs.Scripts.{Data, base_of}
use Rattle.expressions_to_sql.specs.Names.{AreNamesFormed, Names}
use Rattle.expressions_to_sql.specs.ToSql.{Naming, to_sql}
use Rattle.selects_to_sql.specs.Writable.{AllCanBeWritten, CanBeWritten}
use Rattle.selects_to_sql.specs.Queries.{all_to_sql, condition_for, select_of}
use Rattle.selects_to_sql.specs.Runs.{printable_depth}
use Rattle.selects_to_sql.proofs.Expressions.{Translates}
use Rattle.selects_to_sql.proofs.Givens.{AreGiven}
use Rattle.selects_to_sql.proofs.SelectItems.{AllRows, AreItems, GivesRows, IsFrom, IsItem, Valued, each_by, gives_same, select_gives, values_at, values_fault}

-- ---- the values of expressions

abbrev pub valued : Settings → List CompExp → List Valued
valued p es = map (λ e. λ r. value p e r) es

same_fault : (p : Settings) (es : List CompExp) (r : Row) → values_fault (valued p es) r ≡ point_fault p es r
same_fault p [] r = refl
same_fault p (e ∷ es) r = ap (join (fault_in (value p e r))) (same_fault p es r)

same_point : (p : Settings) (es : List CompExp) (r : Row) → values_at (valued p es) r ≡ point_of p es r
same_point p [] r = refl
same_point p (e ∷ es) r = ap (λ l. cell_or_null (value p e r) ∷ l) (same_point p es r)

pub each_is : (p : Settings) (es : List CompExp) (d : List Row) → each_by (valued p es) d ≡ each_point p es d
each_is p es d = ap (λ f. unless f (map (values_at (valued p es)) d)) (faults d) ∙ ap (unless (faults_by (point_fault p es) d)) (points d)
  where
    faults : (rows : List Row) → faults_by (values_fault (valued p es)) rows ≡ faults_by (point_fault p es) rows
    faults [] = refl
    faults (r ∷ rows) = ap (λ f. join f (faults_by (values_fault (valued p es)) rows)) (same_fault p es r) ∙ ap (join (point_fault p es r)) (faults rows)

    points : (rows : List Row) → map (values_at (valued p es)) rows ≡ map (point_of p es) rows
    points [] = refl
    points (r ∷ rows) = ap (λ l. l ∷ map (values_at (valued p es)) rows) (same_point p es r) ∙ ap (λ l. point_of p es r ∷ l) (points rows)

-- ---- expressions over the columns of points

abbrev pub IsPointOf : List Component → Row → Type 0
IsPointOf xs r = is_point xs r ≡ true

-- a condition is boolean, and can be written
abbrev pub IsTest : Settings → List Component → Option CompExp → Type 0
IsTest p xs None = Unit {0}
IsTest p xs (Some e) = IsTyped p xs e × (meets k.Bool (exp_kind e) ≡ true) × CanBeWritten e

module _ (p : Settings) (law : Translates p) (at : Naming) (xs : List Component) (named : AreNamesFormed at xs) where
  pub expression_printed : (e : CompExp) → IsTyped p xs e → CanBeWritten e → IsExp printable_depth (to_sql p at e)
  expression_printed e i w = (law.formed at xs named e i w.constants, omega (arith, law.depth at e, w.shallow))

  pub maybe_printed : (condition : Option CompExp) → IsTest p xs condition → IsMaybeExp printable_depth (condition_for p at condition)
  maybe_printed None h = tt
  maybe_printed (Some e) h = expression_printed e h.0 h.2

  module _ (s : Scope) (names : Names at s xs) where
    pub condition_fits : (tables : Tables) (e : CompExp) → IsTyped p xs e → meets k.Bool (exp_kind e) ≡ true → CanBeWritten e → IsCondition (site p tables s) None (to_sql p at e)
    condition_fits tables e i b w = (law.fits tables at s xs names e i w.constants, ap (meets k.Bool) (law.kind at s xs names e i) ∙ b)

    pub maybe_fits : (tables : Tables) (condition : Option CompExp) → IsTest p xs condition → IsMaybeCondition (site p tables s) None (condition_for p at condition)
    maybe_fits tables None h = tt
    maybe_fits tables (Some e) h = condition_fits tables e h.0 h.1 h.2

    module _ (before : Data) where
      expression_item : (e : CompExp) (y : Component) → IsTyped p xs e → exp_kind e ≡ y.kind → CanBeWritten e → IsItem (base_of p before) s (IsPointOf xs) (λ r. value p e r) (to_sql p at e) y
      expression_item e y i h w = record {
        kind = law.kind at s xs names e i ∙ h;
        fits = law.fits (base_of p before).tables at s xs names e i w.constants;
        printed = expression_printed e i w;
        value_is = λ r d. law.value_at (base_of p before) at s xs r [] refl names e i w.constants;
        of_kind = λ r d. subst (λ q. IfOk (value p e r) (λ v. is_of q v ≡ true)) h (value_is_of p xs e r i d);
      }

      pub expression_items : (es : List CompExp) (ys : List Component) → AreFor p xs es ys → AllCanBeWritten es → AreItems (base_of p before) s (IsPointOf xs) (valued p es) (all_to_sql p at es) ys
      expression_items [] [] i w = tt
      expression_items [] (y ∷ ys) i w = absurd i
      expression_items (e ∷ es) [] i w = absurd i
      expression_items (e ∷ es) (y ∷ ys) i w = (expression_item e y i.0 i.1 w.0, expression_items es ys i.2 w.1)

      -- a select of them
      pub expressions_give : (es : List CompExp) (t : Structure) → AreFor p xs es (columns_of t) → AllCanBeWritten es → AreGiven (columns_of t) → (source : Source) (joins : List JoinTree) (condition : Option Exp) → IsFrom p before s (select_of p at es t source joins condition)
          → (m : Outcome (List Row)) → source_rows (base_of p before) (select_of p at es t source joins condition) ≡ m → AllRows (IsPointOf xs) m → GivesRows p before t (select_of p at es t source joins condition) (after m (each_point p es))
      expressions_give es t i w given source joins condition from m rows all =
          gives_same p before t (select_of p at es t source joins condition) (after m (each_by (valued p es))) (after m (each_point p es)) (go m)
          (select_gives p before s (IsPointOf xs) (valued p es) (all_to_sql p at es) t (expression_items es (columns_of t) i w) given source joins condition from m rows all)
        where
          go : (o : Outcome (List Row)) → after o (each_by (valued p es)) ≡ after o (each_point p es)
          go (Ok d) = each_is p es d
          go (Err f) = refl
