-- When columns name the components of points.
use Rattle.std.specs.Prelude.{◌≡◌, ℕ, List, Some}
use Rattle.vtl_cell.specs.Row.{Row, column_of as cell_at}
use Rattle.vtl_cell.specs.declared.kind.Kind.{Kind}
use Rattle.vtl_tree.specs.declared.structure.Component.{Component}
use Rattle.vtl_meaning.specs.Made.{IsColumnAt}
use Rattle.sql_tree.specs.Formed.{IsColumn}
use Rattle.sql_tree.specs.Trees.{Text}
use Rattle.sql_check_parts.specs.Scopes.{Scope, found}
use Rattle.sql_meaning.specs.Values.{place_in}
use Rattle.expressions_to_sql.specs.ToSql.{Naming}

-- in the sources each component has its kind and its place
pub record Names (at : Naming) (scope : Scope) (xs : List Component) : Type 0 where
  pub known : (place : ℕ) (name : Text) (kind : Kind) → IsColumnAt place name kind xs → found scope (at place name) ≡ Some kind
  pub placed : (place : ℕ) (name : Text) (kind : Kind) → IsColumnAt place name kind xs → place_in scope (at place name) ≡ place

-- in the sources each component has its kind and, at each row, its value at the point that is made of the row
pub record Shows (at : Naming) (scope : Scope) (xs : List Component) (point : Row → Row) : Type 0 where
  pub known : (place : ℕ) (name : Text) (kind : Kind) → IsColumnAt place name kind xs → found scope (at place name) ≡ Some kind
  pub shown : (place : ℕ) (name : Text) (kind : Kind) → IsColumnAt place name kind xs → (r : Row) → cell_at (place_in scope (at place name)) r ≡ cell_at place (point r)

-- the names have the form of names in SQL
abbrev pub AreNamesFormed : Naming → List Component → Type 0
AreNamesFormed at xs = (place : ℕ) (name : Text) (kind : Kind) → IsColumnAt place name kind xs → IsColumn (at place name)
