-- The rows of FROM that WHERE keeps, which are grouped.
use Rattle.std.specs.Prelude.{List}
use Rattle.vtl_cell.specs.Row.{Row}
use Rattle.sql_tree.specs.Trees.{Text}
use Rattle.sql_check_parts.specs.Scopes.{Scope}
use Rattle.sql_from.specs.Held.{rows_held}
use Rattle.sql_from.specs.Sources.{scope_held}
use Rattle.sql_from.specs.Standing.{rows_for}
use Rattle.sql_from.specs.declared.tuple_rows.TupleRows.{TupleRows}

abbrev pub rows_of : TupleRows → List Row
rows_of x = rows_for x.sources x.tuples

-- the rows of the tables that EXISTS asks
abbrev pub tables_of : TupleRows → Text → List Row
tables_of x = rows_held x.sources.held

-- the columns of the sources
abbrev pub scope_of : TupleRows → Scope
scope_of x = scope_held x.sources.sources
