-- The rows that a CSV file holds of a data set: those of the lines behind the header, each a row of the columns, no two with the same
-- identifiers; or the first line that has a flaw, with its first flaw.
use Rattle.std.specs.Prelude.{ℕ, ◌+◌, Bool, false, List, [], ◌∷◌, length, map, slice_index_or, take, Result, Ok, Err, if◌then◌else◌}
use Rattle.std.specs.List.{list_any, range_with_len}
use Rattle.vtl_lists.specs.Aliases.{Bytes, Name, Record}
use Rattle.vtl_lists.specs.Results.{◌>>=◌}
use Rattle.vtl_decimal.specs.Settings.{Settings}
use Rattle.vtl_cell.specs.Row.{Row}
use Rattle.vtl_rows.specs.Keys.{agree}
use Rattle.vtl_rows.specs.Tables.{cells_at}
use Rattle.vtl_tree.specs.Structure.{key_width}
use Rattle.vtl_tree.specs.declared.structure.Structure.{Structure}
use Rattle.vtl_csv.specs.InputFields.{Flaw, read_columns, record_row}
use Rattle.vtl_csv.specs.InputFile.{Fault, Layout, layout_of, of_header}
use Rattle.vtl_csv.specs.StructuresFile.{◌at_line◌, records_in}
use Rattle.vtl_csv.specs.declared.input.InputKind.TheVariants as i

-- all of these values, or the first error
abbrev pub all_of : {A E : Type 0} → List (Result A E) → Result (List A) E
all_of [] = Ok []
all_of (m ∷ ms) = m >>= λ x. all_of ms >>= λ xs. Ok (x ∷ xs)

-- where the identifiers stand in a line
abbrev pub identifier_places : Structure → Layout → List ℕ
identifier_places s layout = take (key_width s) layout.places

-- a line is a row with the same identifiers as this row
abbrev pub is_like : List ℕ → Row → Result Row Flaw → Bool
is_like places row (Ok other) = agree places other row
is_like places row (Err flaw) = false

-- the row, unless one of these lines has its identifiers
abbrev pub unless_there : List ℕ → List (Result Row Flaw) → Row → Result Row Flaw
unless_there places lines row = if list_any (is_like places row) lines then Err (1, i.DuplicateKey) else Ok row

-- the row of a line behind these lines, with identifiers that none of them has; or its first flaw
abbrev pub row_behind : Settings → Structure → List Name → Layout → List Record → Record → Result Row Flaw
row_behind p s not_null layout before fields =
    let columns = read_columns not_null layout.columns in
    record_row p columns (length before) fields >>= unless_there (identifier_places s layout) (map (record_row p columns 0) before)

-- the row of one of these lines, of which the first is line 2; or the number of the line with its flaw
abbrev pub row_at : Settings → Structure → List Name → Layout → List Record → ℕ → Result Row Fault
row_at p s not_null layout lines n = row_behind p s not_null layout (take n lines) (slice_index_or lines n []) at_line (n + 2)

-- the rows of the lines, or the first fault
abbrev pub rows_at : Settings → Structure → List Name → Layout → List Record → Result (List Row) Fault
rows_at p s not_null layout lines = all_of (map (row_at p s not_null layout lines) (range_with_len 0 (length lines)))

-- the rows behind a header, the cells of each in column order
abbrev pub rows_of_records : Settings → Structure → List Name → List Record → Result (List Row) Fault
rows_of_records p s not_null [] = Err (1, (1, i.BadHeader))
rows_of_records p s not_null (header ∷ lines) = of_header (layout_of s header) >>= λ layout. rows_at p s not_null layout lines >>= λ rows. Ok (map (cells_at layout.places) rows)

abbrev pub rows_in_file : Settings → Structure → List Name → Bytes → Result (List Row) Fault
rows_in_file p s not_null text = rows_of_records p s not_null (records_in text)
