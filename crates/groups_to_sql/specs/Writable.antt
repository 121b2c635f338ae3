-- What is asked of analytic calls: the values that they hold can be written.
use Rattle.std.specs.List.{AllByRecursion}
use Rattle.vtl_cell.specs.Held.{IsHeld}
use Rattle.vtl_meaning.specs.AnalyticShapes.{default_in}
use Rattle.vtl_tree.specs.Trees as nodes
use Rattle.vtl_tree.specs.Trees.{AnalyticTree, ValueTree}
use Rattle.selects_to_sql.specs.Writable.{CanBeWritten}

-- a target can be written, and the default of `lag` and `lead`
abbrev pub ValueCanBeWritten : ValueTree → Type 0
ValueCanBeWritten (nodes.scalar e) = CanBeWritten e
ValueCanBeWritten (nodes.analytic x) = IsHeld (default_in x.op)

abbrev pub CallsCanBeWritten : AnalyticTree → Type 0
CallsCanBeWritten (nodes.of_measures o w) = IsHeld (default_in o)
CallsCanBeWritten (nodes.of_items items) = AllByRecursion (λ i. ValueCanBeWritten i.value) items
