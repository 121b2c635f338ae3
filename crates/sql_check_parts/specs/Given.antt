-- The columns of a source, as the program holds them.
use Rattle.std.specs.Prelude.{Option}
use Rattle.sql_check_parts.specs.Scopes.{Columns}
use Rattle.sql_check_parts.specs.declared.given.GivenColumns.{GivenColumns}
use Rattle.sql_check_parts.specs.declared.given.GivenColumns.TheVariants as given

-- those of a table, or those that a SERIES names
abbrev pub columns_given : GivenColumns → Columns
columns_given (given.OfTable columns) = columns.now
columns_given (given.OfSeries columns) = columns
