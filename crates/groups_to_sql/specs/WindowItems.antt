-- Windows and their keys, as they are written.
use Rattle.std.specs.Prelude.{List, filter, map, not}
use Rattle.vtl_decimal.specs.Settings.{Settings}
use Rattle.vtl_tree.specs.declared.structure.Component.{Component}
use Rattle.vtl_tree.specs.declared.structure.Structure.{Structure}
use Rattle.vtl_tree.specs.Trees.{AnalyticTree}
use Rattle.vtl_tree.specs.declared.calls.AnalyticOp.{AnalyticOp}
use Rattle.vtl_tree.specs.declared.calls.Window as windows
use Rattle.sql_tree.specs.Trees.{ItemTree}
use Rattle.sql_tree.specs.declared.parts.Column.{Column}
use Rattle.sql_tree.specs.declared.windows.Window.{Window}
use Rattle.sql_tree.specs.declared.windows.WindowKey.{WindowKey}
use Rattle.groups_to_sql.specs.Windowed.{analytic_item, call_to_sql, is_listed, over_to_sql, rising_key}

-- components that are not listed yet, as keys
abbrev pub unlisted_keys : windows.Window → List Component → List WindowKey
unlisted_keys w xs = map rising_key (filter (λ x. not (is_listed w x)) xs)

-- an operator on a column over a window
abbrev pub window_of : Settings → Structure → AnalyticOp → Column → windows.Window → Window
window_of p a o x w = record { call = call_to_sql p o x; over = over_to_sql a o w }

abbrev pub analytic_items : Settings → AnalyticTree → Structure → List Component → List ItemTree
analytic_items p spec a ys = map (analytic_item p spec a) ys
