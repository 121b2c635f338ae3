-- What is cited of the translation of expressions.
use Rattle.std.proofs.Common.{◌≡◌, ◌≤◌, suc, List, None, sym, subst}
use Rattle.vtl_cell.specs.Row.{Row}
use Rattle.vtl_decimal.specs.Settings.{Settings}
use Rattle.vtl_tree.specs.CompExp.{CompExp}
use Rattle.vtl_tree.specs.Value as points
use Rattle.vtl_tree.specs.declared.structure.Component.{Component}
use Rattle.vtl_tree.specs.Kinds.{exp_kind}
use Rattle.vtl_meaning.specs.Made.{IsTyped}
use Rattle.sql_tree.specs.Formed.{Formed, exp_depth}
use Rattle.sql_check_laws.specs.Fits.{Fits}
use Rattle.sql_check_parts.specs.Expressions.{site}
use Rattle.sql_check_parts.specs.Kinds.{kind_in}
use Rattle.sql_check_parts.specs.Scopes.{Scope, Tables}
use Rattle.sql_meaning.specs.Tables.{Base}
use Rattle.sql_meaning.specs.Values.{at_rows, value}
use Rattle.vtl_tree.specs.Depths.{comp_depth}
use Rattle.expressions_to_sql.specs.Held.{HoldsValues}
use Rattle.expressions_to_sql.specs.Names.{AreNamesFormed, Names}
use Rattle.expressions_to_sql.specs.ToSql.{Naming, to_sql}
use Rattle.expressions_to_sql.proofs.ExpressionDepths.{depth_grows}
use Rattle.expressions_to_sql.proofs.OverPoints.{point_fits, point_formed, point_kind, point_value}

-- an expression has in SQL its kind and its value, breaks no rule, has the form of the grammar, and is at most one deeper
pub record Translates (p : Settings) : Type 0 where
  pub low : p.scale ≤ 9
  pub kind : (at : Naming) (scope : Scope) (xs : List Component) → Names at scope xs → (e : CompExp) → IsTyped p xs e → kind_in scope (to_sql p at e) ≡ exp_kind e
  pub value_at : (b : Base) (at : Naming) (scope : Scope) (xs : List Component) (r : Row) (g : List Row) → b.settings ≡ p → Names at scope xs → (e : CompExp) → IsTyped p xs e → HoldsValues e → value (at_rows b scope) (to_sql p at e) r g ≡ points.value p e r
  pub fits : (tables : Tables) (at : Naming) (scope : Scope) (xs : List Component) → Names at scope xs → (e : CompExp) → IsTyped p xs e → HoldsValues e → Fits (site p tables scope) None (to_sql p at e)
  pub formed : (at : Naming) (xs : List Component) → AreNamesFormed at xs → (e : CompExp) → IsTyped p xs e → HoldsValues e → Formed (to_sql p at e)
  pub depth : (at : Naming) (e : CompExp) → exp_depth (to_sql p at e) ≤ suc (comp_depth e)

pub translates : (p : Settings) → p.scale ≤ 9 → Translates p
translates p low = record {
  low = low;
  kind = point_kind p;
  value_at = λ b at scope xs r g same names e i w.
      subst (λ q. value (at_rows b scope) (to_sql q at e) r g ≡ points.value q e r) same
      (point_value b at scope xs r g (subst (λ q. q.scale ≤ 9) (sym same) low) names e (subst (λ q. IsTyped q xs e) (sym same) i) w);
  fits = λ tables at scope xs names e i w. point_fits p tables at scope xs low names e i w;
  formed = λ at xs named e i w. point_formed p at xs low named e i w;
  depth = depth_grows p;
}
