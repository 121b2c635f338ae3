-- Totals and differences as SQL runs them: over a window in each series, for each frequency alone. The order of periods is by frequency first, and
-- a window that held several of them would reach from one into the next.
use Rattle.std.specs.Prelude.{Bool, false, List, [], ◌∷◌, ◌++◌, filter, length, map, None}
use Rattle.vtl_cell.specs.Order.{same_cell}
use Rattle.vtl_cell.specs.Outcome.{Outcome}
use Rattle.vtl_cell.specs.Row.{Row}
use Rattle.vtl_cell.specs.ScalarPeriods.{frequency_of}
use Rattle.vtl_cell.specs.declared.cell.Cell.TheVariants as c
use Rattle.vtl_cell.specs.declared.kind.Kind.TheVariants as k
use Rattle.vtl_cell.specs.declared.operator.ScalarOp.TheVariants as scalar
use Rattle.vtl_decimal.specs.Settings.{Settings}
use Rattle.vtl_series.specs.Series.{frequencies}
use Rattle.vtl_time.specs.Periods.{letter_of}
use Rattle.vtl_time.specs.declared.periods.Frequency.{Frequency}
use Rattle.vtl_tree.specs.Columns.{column_behind, column_named, columns_named, identifiers_of, measures_of}
use Rattle.vtl_tree.specs.CompExp.{CompExp, call, comp_exp, const, no_comp_exps}
use Rattle.vtl_tree.specs.Environment.{DataSet}
use Rattle.vtl_tree.specs.Structure.{columns_of, names_of}
use Rattle.vtl_tree.specs.Trees as nodes
use Rattle.vtl_tree.specs.declared.calls.AnalyticOp.{AnalyticOp}
use Rattle.vtl_tree.specs.declared.calls.OrderKey.{OrderKey}
use Rattle.vtl_tree.specs.declared.calls.Window.{Window}
use Rattle.vtl_tree.specs.declared.structure.Component.{Component}
use Rattle.vtl_tree.specs.declared.structure.Structure.{Structure}
use Rattle.vtl_meaning.specs.Analytics.{analytic_of}
use Rattle.vtl_meaning.specs.Operators.{for_measures}
use Rattle.vtl_meaning.specs.Points.{with_points}
use Rattle.vtl_timing.specs.Times.{is_time, other_identifiers, time_of}
use Rattle.sql_meaning.specs.Selects.{appended}

-- ---- the points of one frequency
abbrev pub is_of_frequency : Structure → Frequency → Row → Bool
is_of_frequency a f r = same_cell (frequency_of (time_of a r)) (c.Text (letter_of f ∷ []))

abbrev pub part_of : Frequency → DataSet → DataSet
part_of f d = with_points d.structure (filter (is_of_frequency d.structure f) d.points)

-- ---- a window in a series: from its first point to this one
abbrev pub time_key : Component → OrderKey
time_key x = record { component = x.name; falling = false }

abbrev pub series_window : Structure → Window
series_window a = record { partition = names_of (other_identifiers a); order = map time_key (filter is_time (identifiers_of a)); frame = None }

-- an analytic operator on all measures of each part, the results one behind the other
abbrev pub within_frequencies : Settings → AnalyticOp → DataSet → Structure → Outcome (List Row)
within_frequencies p o d s = appended (map (λ f. analytic_of p (nodes.of_measures o (series_window d.structure)) (part_of f d) s) frequencies)

-- ---- a total beside its point: null where the point has no value, though those before it have a total
abbrev pub stock_exp : (a s : Structure) → (x y : Component) → CompExp
stock_exp a s x y =
    call scalar.If y.kind
    (comp_exp (call scalar.IsNull k.Bool (comp_exp (column_named (columns_of a) x.name) no_comp_exps))
    (comp_exp (const c.Null) (comp_exp (column_behind (length (columns_of a)) (columns_of s) x.name) no_comp_exps)))

abbrev pub stock_exps : (a s : Structure) → List CompExp
stock_exps a s = columns_named (columns_of a) (identifiers_of s) ++ for_measures (stock_exp a s) (measures_of a) (measures_of s)
