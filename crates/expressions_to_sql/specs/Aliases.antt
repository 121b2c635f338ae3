-- The columns that aliases, or a list of columns, give to the components of points.
use Rattle.std.specs.Prelude.{nat_lt, List, Option, Some, None, if◌then◌else◌, slice_get}
use Rattle.sql_tree.specs.Trees.{Text}
use Rattle.sql_tree.specs.declared.parts.Column.{Column}
use Rattle.expressions_to_sql.specs.ToSql.{Naming, column_of}
use Rattle.expressions_to_sql.specs.declared.aliases.Aliases.{Aliases}
use Rattle.expressions_to_sql.specs.declared.aliases.Aliases.TheVariants.{Each, One, Two}

-- where there is no column, one that no source has
abbrev pub or_unknown : (name : Text) → Option Column → Column
or_unknown name (Some c) = c
or_unknown name None = column_of name name

-- listed columns, whatever the components are called
abbrev pub column_at : List Column → Naming
column_at columns place name = or_unknown name (slice_get columns place)

abbrev pub naming : Aliases → Naming
naming (One alias) place name = column_of alias.now name
naming (Two first second width) place name = column_of (if nat_lt place width then first.now else second.now) name
naming (Each columns) place name = column_at columns.now place name
