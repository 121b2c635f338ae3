-- Columns whose cells may be null, as those of an operand behind a left join.
use Rattle.std.proofs.Common.{◌≡◌, ℕ, zero, suc, true, List, [], ◌∷◌, length, map, refl}
use Rattle.vtl_cell.specs.Row.{Row}
use Rattle.vtl_cell.specs.declared.kind.Kind.{Kind}
use Rattle.vtl_cell.specs.declared.cell.Cell.TheVariants as c
use Rattle.vtl_tree.specs.DataSet.{is_point}
use Rattle.vtl_tree.specs.declared.structure.Component.{Component}
use Rattle.vtl_tree.specs.declared.structure.Role.TheVariants as role
use Rattle.vtl_meaning.specs.Made.{IsColumnAt}
use Rattle.vtl_meaning.proofs.ValueKinds.{null_is_of, point_from, point_parts}
use Rattle.sql_check_parts.specs.Scopes.{Scope}
use Rattle.sql_meaning.specs.From.{nulls}
use Rattle.expressions_to_sql.specs.Names.{AreNamesFormed, Names}
use Rattle.expressions_to_sql.specs.ToSql.{Naming}

abbrev pub loose : Component → Component
loose x = record { name = x.name; role = role.Measure; kind = x.kind; codes = x.codes }

abbrev pub all_loose : List Component → List Component
all_loose xs = map loose xs

pub column_loose : (place : ℕ) (name : List ℕ) (kind : Kind) (xs : List Component) → IsColumnAt place name kind xs → IsColumnAt place name kind (all_loose xs)
column_loose place name kind [] i = absurd i
column_loose zero name kind (x ∷ xs) i = i
column_loose (suc place) name kind (x ∷ xs) i = column_loose place name kind xs i

column_own : (place : ℕ) (name : List ℕ) (kind : Kind) (xs : List Component) → IsColumnAt place name kind (all_loose xs) → IsColumnAt place name kind xs
column_own place name kind [] i = absurd i
column_own zero name kind (x ∷ xs) i = i
column_own (suc place) name kind (x ∷ xs) i = column_own place name kind xs i

pub loose_names : (at : Naming) (s : Scope) (xs : List Component) → Names at s xs → Names at s (all_loose xs)
loose_names at s xs h = record {
  known = λ place name kind i. h.known place name kind (column_own place name kind xs i);
  placed = λ place name kind i. h.placed place name kind (column_own place name kind xs i);
}

pub loose_formed : (at : Naming) (xs : List Component) → AreNamesFormed at xs → AreNamesFormed at (all_loose xs)
loose_formed at xs h = λ place name kind i. h place name kind (column_own place name kind xs i)

-- a point is a row of them, and so are nulls alone
pub loose_point : (xs : List Component) (r : Row) → is_point xs r ≡ true → is_point (all_loose xs) r ≡ true
loose_point [] [] h = refl
loose_point [] (v ∷ r) h = cc
loose_point (x ∷ xs) [] h = cc
loose_point (x ∷ xs) (v ∷ r) h = let parts = point_parts x xs v r h in point_from (loose x) (all_loose xs) v r parts.0 refl (loose_point xs r parts.2)

pub loose_nulls : (xs : List Component) → is_point (all_loose xs) (nulls (length xs)) ≡ true
loose_nulls [] = refl
loose_nulls (x ∷ xs) = point_from (loose x) (all_loose xs) c.Null (nulls (length xs)) (null_is_of x.kind) refl (loose_nulls xs)
