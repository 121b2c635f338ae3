-- The tables of the sources of a select.
use Rattle.std.specs.Prelude.{ℕ, List, map, get_or, option_map, Option, None, Some}
use Rattle.vtl_rows.specs.Named.{NamedTables, table_of}
use Rattle.vtl_rows.specs.Tables.{Listed}
use Rattle.sql_tree.specs.Trees.{SelectTree}
use Rattle.sql_tree.specs.declared.parts.Source.{Source}
use Rattle.sql_check_parts.specs.Queries.{all_sources}
use Rattle.sql_from.specs.Sources.{given_table}
use Rattle.sql_from.specs.declared.from_tables.FromTable.{FromTable}
use Rattle.sql_from.specs.declared.from_tables.FromTable.TheVariants as is

-- the table of a source, if its own is there
abbrev pub maybe_given : NamedTables → Source → Option Listed
maybe_given held s = option_map (given_table s.series) (table_of s.table held)

-- those of all sources of a select, from the left
abbrev pub from_given : NamedTables → SelectTree → List (Option Listed)
from_given held s = map (maybe_given held) (all_sources s)

-- the one at a place; none past the last
abbrev pub from_at : List (Option Listed) → ℕ → Option Listed
from_at tables i = get_or tables i None

-- the table that is kept of a source
abbrev pub kept_table : FromTable → Option Listed
kept_table is.Missing = None
kept_table (is.Held t) = Some t.now
kept_table (is.Made t) = Some t
