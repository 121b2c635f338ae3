-- What is known of each group of points: the value of an aggregate of a column, or how many points there are.
use Rattle.std.specs.Prelude.{ℕ, List, map, Option, Some, None}
use Rattle.vtl_cell.specs.Groups.{group_value}
use Rattle.vtl_cell.specs.Outcome.{Outcome}
use Rattle.vtl_cell.specs.Outcomes.{all_of}
use Rattle.vtl_cell.specs.Row.{Row, column_of}
use Rattle.vtl_decimal.specs.Settings.{Settings}
use Rattle.vtl_cell.specs.declared.cell.Cell.{Cell}
use Rattle.vtl_cell.specs.declared.operator.AggKind.{AggKind}
use Rattle.vtl_cell.specs.declared.operator.AggKind.TheVariants as agg
use Rattle.vtl_tree.specs.Trees.{AggTree}
use Rattle.vtl_tree.specs.declared.specifications.AggItems.TheVariants as items
use Rattle.vtl_meaning.specs.Groups.{keys_by, points_with}

-- the values of a column
abbrev pub values_at : ℕ → List Row → List Cell
values_at i points = map (column_of i) points

-- one value for each group, in the order of their keys, or the first fault
abbrev pub of_groups : (List Row → Outcome Cell) → (places : List ℕ) → List Row → Outcome (List Cell)
of_groups value places points = all_of (map (λ key. value (points_with places points key)) (keys_by places points))

-- an aggregate of the values of a column
abbrev pub of_column : Settings → AggKind → ℕ → List Row → Outcome Cell
of_column p f i points = group_value p f (values_at i points)

-- ---- aggregates of aggregates

-- the aggregate that makes, of what an aggregate gives for groups, what that gives of all; of means and middles none does
abbrev pub gathered_by : AggKind → Option AggKind
gathered_by agg.Sum = Some agg.Sum
gathered_by agg.Count = Some agg.Sum
gathered_by agg.Min = Some agg.Min
gathered_by agg.Max = Some agg.Max
gathered_by agg.Avg = None
gathered_by agg.Median = None

-- an aggregate of the measures of a data set, grouped by identifiers of these names
abbrev pub grouped : AggKind → (names : List (List ℕ)) → AggTree
grouped f names = record { items = items.Measures f; grouping = names; having = None }
