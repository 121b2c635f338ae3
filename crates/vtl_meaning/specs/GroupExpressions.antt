-- The value of an expression over groups. A grouping identifier has the group's value, and an aggregate is an operand like another, which is
-- evaluated where the expression reaches it.
use Rattle.std.specs.Prelude.{ℕ, List, [], ◌∷◌, map, Option, Some, None, Ok}
use Rattle.std.specs.List.{position_or_len}
use Rattle.vtl_cell.specs.Groups.{count_of_points, group_value}
use Rattle.vtl_cell.specs.Outcome.{Outcome}
use Rattle.vtl_cell.specs.Row.{Row, column_of}
use Rattle.vtl_decimal.specs.Settings.{Settings}
use Rattle.vtl_cell.specs.declared.cell.Cell.{Cell}
use Rattle.vtl_cell.specs.declared.operator.AggKind.{AggKind}
use Rattle.vtl_tree.specs.CompExp.{CompExp, CompExps, column, const, call, aggregate, no_comp_exps, comp_exp}
use Rattle.vtl_tree.specs.Structure.{same_name}
use Rattle.vtl_tree.specs.Value.{called}
use Rattle.vtl_tree.specs.declared.expression.AggCall.{AggCall}
use Rattle.vtl_tree.specs.declared.structure.Component.{Component}
use Rattle.vtl_tree.specs.Columns.{place_of}

-- the value of an expression whose columns and aggregates have these values: operands from left to right, the first fault is the value, and
-- `if` evaluates its condition and the branch that it chooses alone
abbrev mutual
  pub value_over : Settings → (columns : ℕ → List ℕ → Cell) → (aggregates : AggCall → Outcome Cell) → CompExp → Outcome Cell
  value_over p columns aggregates (column place name kind) = Ok (columns place name)
  value_over p columns aggregates (const v) = Ok v
  value_over p columns aggregates (call o kind args) = called p kind (values_over p columns aggregates args) o
  value_over p columns aggregates (aggregate a kind) = aggregates a

  -- of each operand
  pub values_over : Settings → (columns : ℕ → List ℕ → Cell) → (aggregates : AggCall → Outcome Cell) → CompExps → List (Outcome Cell)
  values_over p columns aggregates no_comp_exps = []
  values_over p columns aggregates (comp_exp e es) = value_over p columns aggregates e ∷ values_over p columns aggregates es

-- an aggregate of points of these columns: of the values of a component that are not null, or the number of the points
abbrev pub aggregated : Settings → List Component → AggKind → Option (List ℕ) → (points : List Row) → Outcome Cell
aggregated p xs f None points = count_of_points p points
aggregated p xs f (Some name) points = group_value p f (map (column_of (place_of name xs)) points)

-- the group's value of a grouping identifier, from a key that has a cell for each of the names
abbrev pub grouped_cell : (names : List (List ℕ)) → (key : Row) → ℕ → List ℕ → Cell
grouped_cell names key place name = column_of (position_or_len (same_name name) names) key

-- the value of an expression at the group of this key
abbrev pub value_at_group : Settings → (names : List (List ℕ)) → List Component → CompExp → (key : Row) → (points : List Row) → Outcome Cell
value_at_group p names xs e key points = value_over p (grouped_cell names key) (λ a. aggregated p xs a.kind a.component points) e
