-- The cells that the fields of a CSV file spell in their columns, or the first flaw.
use Rattle.std.specs.Prelude.{ℕ, ◌+◌, Bool, true, ◌==◌, List, [], ◌∷◌, ◌++◌, length, map, min, nat_le, Option, None, Some, Result, Ok, Err, if◌then◌else◌}
use Rattle.std.specs.List.{list_any, zip}
use Rattle.std.specs.Option.{option_map_or}
use Rattle.std.specs.Str.{is_utf8}
use Rattle.vtl_lists.specs.Aliases.{Field, Name, Record}
use Rattle.vtl_decimal.specs.Settings.{Settings}
use Rattle.vtl_cell.specs.declared.cell.Cell.{Cell}
use Rattle.vtl_cell.specs.declared.cell.Cell.TheVariants as c
use Rattle.vtl_cell.specs.Reading.{reads}
use Rattle.vtl_cell.specs.Row.{Row}
use Rattle.vtl_tree.specs.declared.structure.Component.{Component}
use Rattle.vtl_tree.specs.Names.{is_among}
use Rattle.vtl_tree.specs.Structure.{same_name}
use Rattle.vtl_csv.specs.declared.input.InputKind.{InputKind}
use Rattle.vtl_csv.specs.declared.input.InputKind.TheVariants as i
use Rattle.vtl_csv.specs.StructuresFile.{is_identifier}

-- a text is among the codes of the component, if it lists codes
abbrev pub is_coded : Component → Cell → Bool
is_coded x (c.Text t) = option_map_or (λ texts. list_any (same_name t) texts) x.codes true
is_coded x _ = true

abbrev pub coded_cell : Component → Option Cell → Result Cell InputKind
coded_cell x None = Err i.BadValue
coded_cell x (Some v) = if is_coded x v then Ok v else Err i.NotInCodes

-- a column of a file: its component, and whether that is a not-null one
pub record ReadColumn : Type 0 where
  pub component : Component
  pub not_null : Bool

abbrev pub read_column : List Name → Component → ReadColumn
read_column not_null x = record { component = x; not_null = is_among x.name not_null }

abbrev pub read_columns : List Name → List Component → List ReadColumn
read_columns not_null xs = map (read_column not_null) xs

abbrev pub components_in : List ReadColumn → List Component
components_in columns = map (λ x. x.component) columns

-- the cell of an empty field: null, which no identifier is and no not-null component
abbrev pub empty_cell : ReadColumn → Result Cell InputKind
empty_cell x = if is_identifier x.component then Err i.NullIdentifier else if x.not_null then Err i.NotNull else Ok c.Null

-- the cell of a field that is a text
abbrev pub text_cell : Settings → ReadColumn → Field → Result Cell InputKind
text_cell p x [] = empty_cell x
text_cell p x (b ∷ bs) = coded_cell x.component (reads p x.component.kind (b ∷ bs))

abbrev pub field_cell : Settings → ReadColumn → Field → Result Cell InputKind
field_cell p x f = if is_utf8 f then text_cell p x f else Err i.NotText

-- a place in a line, from 1 on, and what is wrong there
abbrev pub Flaw : Type 0
Flaw = ℕ × InputKind

-- the row goes on with a cell, or ends at a flaw in the column after its cells
abbrev pub at_column : Row → (Row → Result Row Flaw) → Result Cell InputKind → Result Row Flaw
at_column row go_on (Err kind) = Err (length row + 1, kind)
at_column row go_on (Ok v) = go_on (row ++ v ∷ [])

-- the row of cells and then of these fields, each in its column, or the first flaw of them
abbrev pub row_with : Settings → Row → List (ReadColumn × Field) → Result Row Flaw
row_with p row [] = Ok row
row_with p row (x ∷ xs) = at_column row (λ longer. row_with p longer xs) (field_cell p x.0 x.1)

-- the most points that a file may hold
abbrev pub most_points : ℕ
most_points = 1000000

-- the row of a record in these columns, behind a number of rows
abbrev pub record_row : Settings → List ReadColumn → ℕ → Record → Result Row Flaw
record_row p columns count fields =
    if nat_le most_points count then Err (1, i.TooManyRows)
    else if length fields == length columns then row_with p [] (zip columns fields)
    else Err (min (length fields) (length columns) + 1, i.WrongWidth)
