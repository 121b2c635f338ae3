-- The rows that a CSV file holds of a data set of a structure, or its first fault: the line, which is the number of a record,
-- the column, and what is wrong there.
use Rattle.std.specs.Prelude.{ℕ, ◌+◌, ◌≡◌, Bool, List, [], ◌∷◌, ◌++◌, map, take, length, encode_utf8_all, Option, None, Some, ok_or, Result, Ok, Err, if◌then◌else◌}
use Rattle.std.specs.List.{list_any}
use Rattle.std.specs.Option.{is_some}
use Rattle.vtl_lists.specs.Aliases.{Bytes, Field, Name, Record}
use Rattle.vtl_lists.specs.Results.{◌>>=◌}
use Rattle.vtl_decimal.specs.Settings.{Settings}
use Rattle.vtl_lists.specs.Each.{each_some}
use Rattle.vtl_cell.specs.Row.{Row}
use Rattle.vtl_rows.specs.Keys.{agree}
use Rattle.vtl_rows.specs.Tables.{Listed, cells_at}
use Rattle.vtl_tree.specs.declared.structure.Component.{Component}
use Rattle.vtl_tree.specs.declared.structure.Structure.{Structure}
use Rattle.vtl_tree.specs.Structure.{columns_of, key_width, same_name}
use Rattle.vtl_sets.specs.TableOf.{table_columns}
use Rattle.vtl_csv.specs.declared.input.InputErr.{InputErr}
use Rattle.vtl_csv.specs.declared.input.InputErr.TheVariants as e
use Rattle.vtl_csv.specs.declared.input.InputKind.TheVariants as i
use Rattle.vtl_csv.specs.InputFields.{Flaw, ReadColumn, read_columns, record_row}
use Rattle.vtl_csv.specs.StructuresFile.{◌at_line◌, records_in}

-- the component of which a field is the name
abbrev pub named_by : List Component → Field → Option Component
named_by [] f = None
named_by (x ∷ xs) f = if same_name f (encode_utf8_all x.name) then Some x else named_by xs f

-- the component that a field names, which no field before it names
abbrev pub newly_named : List Component → List Component → Field → Option Component
newly_named xs before f = if is_some (named_by before f) then None else named_by xs f

-- the components that header fields name behind others, or the column of the first field that names none, or one again
abbrev pub columns_with : List Component → List Component → Record → Result (List Component) ℕ
columns_with xs before [] = Ok before
columns_with xs before (f ∷ fs) = ok_or (newly_named xs before f) (length before + 1) >>= λ x. columns_with xs (before ++ x ∷ []) fs

-- the place of the column of a component's name, the first column having this place
abbrev pub place_from : ℕ → List Component → Component → Option ℕ
place_from i [] x = None
place_from i (y ∷ ys) x = if same_name x.name y.name then Some i else place_from (i + 1) ys x

-- the place of a component among the columns of a file
abbrev pub place_in : List Component → Component → Option ℕ
place_in columns x = place_from 0 columns x

-- the columns of a file, and the place among them of each component in column order
pub record Layout : Type 0 where
  pub columns : List Component
  pub places : List ℕ

-- the places of the components among these columns; one that is missing is a fault behind the last field
abbrev pub places_in : Structure → List Component → Result (List ℕ) ℕ
places_in s columns = ok_or (each_some (place_in columns) (columns_of s)) (length columns + 1)

-- what a header says: each component once, in any order; or the column of its first fault
abbrev pub layout_of : Structure → Record → Result Layout ℕ
layout_of s fields =
    columns_with s.components [] fields >>= λ columns. places_in s columns
    >>= λ places. Ok (record { columns = columns; places = places })

-- a line and a flaw in it
abbrev pub Fault : Type 0
Fault = ℕ × Flaw

-- the fault of a column of the header
abbrev pub of_header : {A : Type 0} → Result A ℕ → Result A Fault
of_header (Ok x) = Ok x
of_header (Err column) = Err (1, (column, i.BadHeader))

-- some row has these identifiers, which stand at the listed places
abbrev pub is_repeat : List ℕ → List Row → Row → Bool
is_repeat keys rows row = list_any (λ r. agree keys r row) rows

-- the rows and then this one, unless it repeats the identifiers of one of them
abbrev pub unless_repeated : List ℕ → List Row → Row → Result (List Row) Flaw
unless_repeated keys before row = if is_repeat keys before row then Err (1, i.DuplicateKey) else Ok (before ++ row ∷ [])

-- the rows before and then those of these records, or the first line that has a flaw with its first flaw; the records stand
-- on the lines behind the header and those rows
abbrev pub rows_with : Settings → List ReadColumn → List ℕ → List Row → List Record → Result (List Row) Fault
rows_with p columns keys before [] = Ok before
rows_with p columns keys before (fields ∷ rest) =
    (record_row p columns (length before) fields >>= unless_repeated keys before) at_line (length before + 2)
    >>= λ rows. rows_with p columns keys rows rest

-- the rows of these records below a header with this layout, the cells of each in column order
abbrev pub rows_below : Settings → Structure → List Name → Layout → List Record → Result (List Row) Fault
rows_below p s not_null layout rest =
    rows_with p (read_columns not_null layout.columns) (take (key_width s) layout.places) [] rest
    >>= λ rows. Ok (map (cells_at layout.places) rows)

abbrev pub rows_in_records : Settings → Structure → List Name → List Record → Result (List Row) Fault
rows_in_records p s not_null [] = Err (1, (1, i.BadHeader))
rows_in_records p s not_null (header ∷ rest) = of_header (layout_of s header) >>= λ layout. rows_below p s not_null layout rest

-- the rows that a CSV file holds of a data set of the structure whose components of these names are not-null, or its first
-- fault
abbrev pub dataset_rows : Settings → Structure → List Name → Bytes → Result (List Row) Fault
dataset_rows p s not_null text = rows_in_records p s not_null (records_in text)

-- a table of the structure with the rows, or the fault; want of memory may come instead
abbrev pub Reads : Structure → Result Listed InputErr → Result (List Row) Fault → Type 0
Reads s (Ok table) what = (table.columns ≡ table_columns s) × (what ≡ Ok table.rows)
Reads s (Err (e.Fault line column kind)) what = what ≡ Err (line, (column, kind))
Reads s (Err e.OutOfMemory) what = Unit {0}
