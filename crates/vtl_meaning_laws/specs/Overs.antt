-- Aggregates over whole partitions beside aggregates by groups.
use Rattle.std.specs.Prelude.{ℕ, List, [], Option, Some, None}
use Rattle.vtl_cell.specs.declared.operator.AggKind.{AggKind}
use Rattle.vtl_cell.specs.declared.operator.AggKind.TheVariants as agg
use Rattle.vtl_tree.specs.Trees as nodes
use Rattle.vtl_tree.specs.Trees.{AggTree, AnalyticTree}
use Rattle.vtl_tree.specs.declared.calls.AnalyticOp.{AnalyticOp}
use Rattle.vtl_tree.specs.declared.calls.AnalyticOp.TheVariants as op
use Rattle.vtl_tree.specs.declared.calls.Window.{Window}
use Rattle.vtl_tree.specs.declared.specifications.AggItems.TheVariants as items

-- the analytic operator of an aggregate; `count` of a data set counts points, and `median` has no window
abbrev pub over_of : AggKind → Option AnalyticOp
over_of agg.Sum = Some op.Sum
over_of agg.Avg = Some op.Avg
over_of agg.Min = Some op.Min
over_of agg.Max = Some op.Max
over_of agg.Count = None
over_of agg.Median = None

abbrev pub whole : (names : List (List ℕ)) → Window
whole names = record { partition = names; order = []; frame = None }

-- `f(ds over (partition by names))`
abbrev pub over_partitions : AnalyticOp → (names : List (List ℕ)) → AnalyticTree
over_partitions o names = nodes.of_measures o (whole names)

-- `f(ds group by names)`
abbrev pub by_groups : AggKind → (names : List (List ℕ)) → AggTree
by_groups f names = record { items = items.Measures f; grouping = names; having = None }
