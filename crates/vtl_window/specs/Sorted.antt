-- The keys by which the points of a data set are sorted for a call: the partition of its window, the order, and then
-- identifiers, so that no two points tie where this matters.
use Rattle.std.specs.Prelude.{ℕ, false, List, [], ◌++◌, map}
use Rattle.vtl_rows.specs.declared.column.SortKey.{SortKey}
use Rattle.vtl_tree.specs.declared.structure.Component.{Component}
use Rattle.vtl_tree.specs.Columns.{place_of}
use Rattle.vtl_tree.specs.declared.calls.AnalyticOp.{AnalyticOp}
use Rattle.vtl_tree.specs.declared.calls.AnalyticOp.TheVariants as op
use Rattle.vtl_tree.specs.declared.calls.OrderKey.{OrderKey}
use Rattle.vtl_tree.specs.declared.calls.Window.{Window}

abbrev pub rising_key : ℕ → SortKey
rising_key place = record { column = place; falling = false }

abbrev pub ordering_key : List Component → OrderKey → SortKey
ordering_key xs k = record { column = place_of k.component xs; falling = k.falling }

abbrev pub partition_keys : List Component → Window → List SortKey
partition_keys xs w = map (λ name. rising_key (place_of name xs)) w.partition

abbrev pub order_keys : List Component → Window → List SortKey
order_keys xs w = map (ordering_key xs) w.order

abbrev pub identifier_keys : List Component → List Component → List SortKey
identifier_keys xs ids = map (λ y. rising_key (place_of y.name xs)) ids

abbrev pub sort_keys : List Component → List Component → Window → List SortKey
sort_keys xs ids w = (partition_keys xs w ++ order_keys xs w) ++ identifier_keys xs ids

-- of a data set's identifiers those that the sort for an operator looks at: all of them, or none for a rank, which is
-- one for points that tie
abbrev pub tie_breakers : AnalyticOp → List Component → List Component
tie_breakers op.Rank ids = []
tie_breakers o ids = ids
