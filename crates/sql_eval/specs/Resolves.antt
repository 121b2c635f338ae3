-- When an expression with places has the value of an expression with names.
use Rattle.std.specs.Prelude.{◌≡◌, ◌++◌, ℕ, List, [], map, if◌then◌else◌}
use Rattle.std.specs.List.{position_or_len}
use Rattle.vtl_cell.specs.Outcome.{Outcome}
use Rattle.vtl_cell.specs.Row.{Row}
use Rattle.vtl_decimal.specs.Settings.{Settings}
use Rattle.vtl_cell.specs.declared.cell.Cell.{Cell}
use Rattle.sql_tree.specs.Trees.{Branches, Exp, Exps, Text}
use Rattle.sql_tree.specs.declared.parts.Column.{Column}
use Rattle.sql_tree.specs.declared.parts.Equality.{Equality}
use Rattle.sql_check_parts.specs.Exists.{Inner, is_inner}
use Rattle.sql_check_parts.specs.Kinds.{kind_in, kinds_in, value_kinds}
use Rattle.sql_check_parts.specs.Scopes.{Scope, Tables}
use Rattle.sql_meaning.specs.Values.{View, chosen, inner_scope, place_in, same_column, value, values}
use Rattle.sql_eval.specs.Placed.{Placed, placed_choice, placed_value, placed_values}
use Rattle.sql_eval.specs.View.{branch_of, branches_of, placed_of, placeds_of}
use Rattle.sql_eval.specs.declared.kinded.Branches.{Branches as ResolvedBranches}
use Rattle.sql_eval.specs.declared.kinded.Kinded.{Kinded}
use Rattle.sql_eval.specs.declared.kinded.Operands.{Operands}
use Rattle.sql_eval.specs.declared.names.Level.{Level}
use Rattle.sql_eval.specs.declared.names.Level.TheVariants as levels
use Rattle.sql_eval.specs.declared.resolved.Side.{Side}
use Rattle.sql_eval.specs.declared.resolved.Side.TheVariants as side
use Rattle.sql_eval.specs.declared.resolved.Tie.{Tie}

-- the place of a column in the row that an expression sees
abbrev pub place_at : Scope → Level → Column → ℕ
place_at scope levels.Rows = place_in scope
place_at scope (levels.Groups columns) = λ x. position_or_len (same_column x) columns.now

-- What is known when a select is resolved: all but the rows of the tables.
pub record Sight : Type 0 where
  pub settings : Settings
  pub tables : Tables
  pub scope : Scope
  pub level : Level

abbrev pub sight : Settings → Tables → Scope → Level → Sight
sight p tables scope level = record { settings = p; tables = tables; scope = scope; level = level }

-- what an expression sees once the rows are there
abbrev pub view_over : Sight → (Text → List Row) → View
view_over s rows = record { base = record { settings = s.settings; tables = s.tables; rows = rows }; scope = s.scope; place = place_at s.scope s.level }

-- whatever rows the tables have, it has at each row and group the value of the expression
abbrev pub HasValueOf : Sight → Exp → Placed → Type 0
HasValueOf s e x = (rows : Text → List Row) (r : Row) (g : List Row) → placed_value s.settings rows x r g ≡ value (view_over s rows) e r g

-- it has the expression's kind and its values
pub record Resolves (s : Sight) (e : Exp) (x : Kinded) : Type 0 where
  pub kind_is : x.kind ≡ kind_in s.scope e
  pub value_is : HasValueOf s e (placed_of x.exp)

pub record AllResolve (s : Sight) (es : Exps) (x : Operands) : Type 0 where
  pub kinds_are : x.kinds.items ≡ kinds_in s.scope es
  pub values_are : (rows : Text → List Row) (r : Row) (g : List Row) → placed_values s.settings rows (placeds_of (map placed_of x.exps.items)) r g ≡ values (view_over s rows) es r g

-- branches: with others behind them that are worth the last value, they are worth the choice among them
pub record BranchesResolve (s : Sight) (bs : Branches) (x : ResolvedBranches) : Type 0 where
  pub kinds_are : x.kinds.items ≡ value_kinds s.scope bs []
  pub values_are : (rows : Text → List Row) (r : Row) (g : List Row) (last : Outcome Cell) (more : List (Placed × Placed)) → placed_choice s.settings rows (branches_of more) r g ≡ last → placed_choice s.settings rows (branches_of (map branch_of x.branches.items ++ more)) r g ≡ chosen (view_over s rows) bs r g last

-- ---- EXISTS

abbrev pub side_of : (Column → ℕ) → Inner → Column → Side
side_of place i x = if is_inner i x then side.Inner (place_in (inner_scope i) x) else side.Outer (place x)

abbrev pub tie_of : (Column → ℕ) → Inner → Equality → Tie
tie_of place i e = record { left = side_of place i e.left; right = side_of place i e.right }
