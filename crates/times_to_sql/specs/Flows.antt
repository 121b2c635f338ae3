-- The queries of `flow_to_stock` and `stock_to_flow`: first a table of the totals or of the previous values along the series of each
-- frequency, then one of the values with them.
use Rattle.std.specs.Prelude.{ℕ, pos, List, [], ◌∷◌, map, Some, None}
use Rattle.vtl_cell.specs.declared.cell.Cell.TheVariants as c
use Rattle.vtl_cell.specs.declared.operator.ScalarOp.TheVariants as op
use Rattle.vtl_decimal.specs.Settings.{Settings}
use Rattle.vtl_series.specs.Series.{frequencies}
use Rattle.vtl_time.specs.Periods.{letter_of}
use Rattle.vtl_time.specs.declared.periods.Frequency.{Frequency}
use Rattle.vtl_tree.specs.Structure.{columns_of}
use Rattle.vtl_tree.specs.Trees as nodes
use Rattle.vtl_tree.specs.Trees.{AnalyticTree}
use Rattle.vtl_tree.specs.declared.calls.AnalyticOp.{AnalyticOp}
use Rattle.vtl_tree.specs.declared.calls.AnalyticOp.TheVariants as analytic
use Rattle.vtl_tree.specs.declared.structure.Structure.{Structure}
use Rattle.sql_tree.specs.Trees.{Exp, QueryTree, SelectTree, Text, binary, call, constant, exp, no_exps}
use Rattle.sql_tree.specs.declared.parts.Constant.TheVariants as constants
use Rattle.groups_to_sql.specs.WindowItems.{analytic_items}
use Rattle.selects_to_sql.specs.Items.{first_column, from_one}
use Rattle.selects_to_sql.specs.Queries.{name_of_first, pair_query, pairs_select}
use Rattle.selects_to_sql.specs.Tables.{Made, Sources, and_then, by_names, over, stored, with_one, with_two}
use Rattle.times_to_sql.specs.Fills.{times_of}
use Rattle.times_to_sql.specs.Frequencies.{series_window, stock_exps}

-- ---- along a series

-- the total up to a point
abbrev pub total : AnalyticOp
total = analytic.Sum

-- the value at the previous point, and zero at the first one
abbrev pub previous_value : AnalyticOp
previous_value = analytic.Lag 1 (c.Int (pos 0))

abbrev pub along_series : AnalyticOp → Structure → AnalyticTree
along_series o a = nodes.of_measures o (series_window a)

-- a time of this name has the frequency
abbrev pub has_frequency : (time : Text) → Frequency → Exp
has_frequency time f = binary (call op.PeriodFrequency (exp (first_column time) no_exps)) op.Equal (constant (constants.Text (letter_of f ∷ [])))

abbrev pub time_name : Structure → Text
time_name a = name_of_first (times_of a)

-- an operator at the points whose time has a frequency
abbrev pub part_select : Settings → AnalyticTree → (time : Text) → (a s : Structure) → (table : Text) → Frequency → SelectTree
part_select p spec time a s table f = from_one (analytic_items p spec a (columns_of s)) (Some (has_frequency time f)) table

-- an operator along the series of each frequency
abbrev pub parts_query : Settings → AnalyticOp → (a s : Structure) → (table : Text) → QueryTree
parts_query p o a s table = map (part_select p (along_series o a) (time_name a) a s table) frequencies

-- ---- tables

-- null where the operand is null, else the total
abbrev pub stock_query : Settings → (a s : Structure) → (table parts : Text) → QueryTree
stock_query p a s table parts = pairs_select p (stock_exps a s) a s s None table parts ∷ []

-- the value less the previous one
abbrev pub flow_query : Settings → (a s : Structure) → (table parts : Text) → QueryTree
flow_query p a s table parts = pair_query p op.Subtract a s s table parts

-- what is made along the series, in a table of its own
abbrev pub parts_of : Settings → (result : Text) → AnalyticOp → (a s : Structure) → List Text → ℕ → Sources
parts_of p r o a s xs n = stored r (over (by_names xs n) (with_one (parts_query p o a s)))

abbrev pub stock_made : Settings → (result : Text) → (a s : Structure) → Sources → Made
stock_made p r a s os = over (and_then os (parts_of p r total a s os.names)) (with_two (stock_query p a s))

abbrev pub flow_made : Settings → (result : Text) → (a s : Structure) → Sources → Made
flow_made p r a s os = over (and_then os (parts_of p r previous_value a s os.names)) (with_two (flow_query p a s))
