-- The text of a structures file of version 2 that declares structures.
use Rattle.std.specs.Prelude.{ℕ, ◌+◌, Bool, ◌||◌, List, [], ◌∷◌, ◌++◌, Option, Some, None, map, flat_map, codes, encode_utf8_all, if◌then◌else◌}
use Rattle.csv.specs.Writing.{default_writer, row_text}
use Rattle.vtl_lists.specs.Aliases.{Bytes, Field, Name, Record, Text}
use Rattle.vtl_decimal.specs.Settings.{Settings}
use Rattle.vtl_decimal.specs.declared.settings.Rounding.{Rounding}
use Rattle.vtl_decimal.specs.declared.settings.Rounding.TheVariants as round
use Rattle.vtl_cell.specs.declared.kind.Kind.{Kind}
use Rattle.vtl_cell.specs.declared.kind.Kind.TheVariants as k
use Rattle.vtl_tree.specs.declared.structure.Component.{Component}
use Rattle.vtl_tree.specs.declared.structure.Role.{Role}
use Rattle.vtl_tree.specs.declared.structure.Role.TheVariants as r
use Rattle.vtl_tree.specs.declared.structure.Structure.{Structure}
use Rattle.vtl_tree.specs.Names.{is_among}
use Rattle.vtl_tree.specs.NotNull.{Declared, NotNull, not_null_of}
use Rattle.vtl_csv.specs.StructuresFile.{is_identifier}

abbrev pub rounding_word : Rounding → Field
rounding_word round.HalfUp = codes "half_up"
rounding_word round.HalfEven = codes "half_even"
rounding_word round.Down = codes "down"

abbrev pub role_word : Role → Field
role_word r.Identifier = codes "identifier"
role_word r.Measure = codes "measure"
role_word r.Attribute = codes "attribute"

-- no component that may be declared has the kind of null
abbrev pub kind_word : Kind → Field
kind_word k.Null = []
kind_word k.Bool = codes "boolean"
kind_word k.Int = codes "integer"
kind_word k.Num = codes "number"
kind_word k.Text = codes "string"
kind_word k.Day = codes "date"
kind_word k.Period = codes "time_period"

-- a code with a `|` before it
abbrev pub barred : Text → Field
barred code = 124 ∷ encode_utf8_all code

-- codes with a `|` between them
abbrev pub joined : List Text → Field
joined [] = []
joined (code ∷ rest) = encode_utf8_all code ++ flat_map barred rest

abbrev pub codes_field : Option (List Text) → Field
codes_field None = []
codes_field (Some texts) = joined texts

-- no identifier is null, and no component whose name is on the list
abbrev pub nullable_word : List Name → Component → Field
nullable_word list x = if is_identifier x || is_among x.name list then codes "false" else codes "true"

abbrev pub component_record : Name → List Name → Component → Record
component_record dataset list x =
    encode_utf8_all dataset ∷ encode_utf8_all x.name ∷ role_word x.role ∷ kind_word x.kind ∷ codes_field x.codes ∷ nullable_word list x ∷ []

-- the records of a data set
abbrev pub set_records : NotNull → Name × Structure → List Record
set_records lists e = map (component_record e.0 (not_null_of e.0 lists)) e.1.components

abbrev pub profile_record : Settings → Record
profile_record p = codes "structures" ∷ codes "2" ∷ ((48 + p.scale) ∷ []) ∷ rounding_word p.rounding ∷ [] ∷ [] ∷ []

abbrev pub heading_record : Record
heading_record = codes "dataset" ∷ codes "component" ∷ codes "role" ∷ codes "type" ∷ codes "codes" ∷ codes "nullable" ∷ []

-- the records that declare the components of all data sets
abbrev pub declaring_records : Declared → List Record
declaring_records d = flat_map (set_records d.not_null) d.sets

abbrev pub records_written : Declared → Settings → List Record
records_written d p = profile_record p ∷ heading_record ∷ declaring_records d

-- the text of version 2 that declares these structures with their not-null lists, and this profile
abbrev pub second_text : Declared → Settings → Bytes
second_text d p = flat_map (row_text default_writer) (records_written d p)
