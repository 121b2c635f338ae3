-- The CSV text of a table.
use Rattle.std.specs.Prelude.{ℕ, List, ◌∷◌, ◌++◌, map, flat_map, length, encode_utf8_all}
use Rattle.std.specs.List.{range_with_len}
use Rattle.csv.specs.Writing.{default_writer, row_text}
use Rattle.vtl_lists.specs.Aliases.{Bytes, Record}
use Rattle.vtl_decimal.specs.Settings.{Settings}
use Rattle.vtl_lists.specs.Sorting.{le_by, sorted_by}
use Rattle.vtl_cell.specs.Row.{Row}
use Rattle.vtl_cell.specs.Sorted.{by_keys, rising}
use Rattle.vtl_cell.specs.Writing.{text_of}
use Rattle.vtl_rows.specs.declared.column.Column.{Column}
use Rattle.vtl_rows.specs.Tables.{Listed, cells_at}

-- the fields of the header
abbrev pub names_written : List Column → Record
names_written columns = map (λ c. encode_utf8_all c.name) columns

-- a header, and then a record for each row, as they stand
abbrev pub rows_text : Settings → List Column → List Row → Bytes
rows_text p columns rows = flat_map (row_text default_writer) (names_written columns ∷ map (map (text_of p)) rows)

-- the places of all columns
abbrev pub all_places : List Column → List ℕ
all_places columns = range_with_len 0 (length columns)

-- the cells of each row in all columns
abbrev pub whole_rows : List Column → List Row → List Row
whole_rows columns rows = map (cells_at (all_places columns)) rows

-- in order by the listed columns, and where rows tie by all of them from the left
abbrev pub in_listed_order : List ℕ → List Column → List Row → List Row
in_listed_order listed columns rows = sorted_by (le_by (by_keys (map rising (listed ++ all_places columns)))) rows

-- the text of a table, its rows by the listed columns and then by all
abbrev pub table_text : Settings → List ℕ → Listed → Bytes
table_text p listed t = rows_text p t.columns (in_listed_order listed t.columns (whole_rows t.columns t.rows))
