-- The columns of a table by name, and those of the table of FROM and WHERE.
use Rattle.std.specs.Prelude.{◌≡◌, ℕ, List, [], ◌∷◌, ◌++◌, length, map, slice_index_or, if◌then◌else◌}
use Rattle.std.specs.Map.{keys_of}
use Rattle.std.specs.Option.{option_map}
use Rattle.std.specs.List.{flat_map}
use Rattle.vtl_cell.specs.declared.kind.Kind.{Kind}
use Rattle.vtl_cell.specs.declared.kind.Kind.TheVariants as k
use Rattle.vtl_rows.specs.declared.column.Column.{Column}
use Rattle.sql_tree.specs.Trees.{Text}
use Rattle.sql_check_parts.specs.Scopes.{Columns, Named, Scope, is_among, numbered, value_among}
use Rattle.sql_from.specs.declared.columns.ColumnAt.{ColumnAt}

-- Columns by name are found as they are found in a list: their kinds, and their places in it.
pub record AreFound (columns : Columns) (named : Named ColumnAt) : Type 0 where
  pub kinds : (name : Text) → option_map (λ c. c.kind) (value_among named name) ≡ value_among columns name
  pub places : (name : Text) → option_map (λ c. c.place) (value_among named name) ≡ value_among (numbered 0 columns) name

-- a name behind others with its number, unless it is one of them
abbrev pub and_number : Named ℕ → Text → Named ℕ
and_number named name = if is_among name (keys_of named) then named else named ++ (name, length named) ∷ []

abbrev pub line_feed : ℕ
line_feed = 10

-- the columns of a source, each named by the alias, a line feed and its name
abbrev pub columns_below : Text → Columns → List Column
columns_below alias columns = map (λ e. record { name = alias ++ line_feed ∷ e.0; kind = e.1 }) columns

-- those of all sources, in order
abbrev pub source_columns : Scope → List Column
source_columns scope = flat_map (λ s. columns_below s.0 s.1) scope

-- the kinds at listed places of a row; past its end that of null
abbrev pub kinds_at : List ℕ → List Kind → List Kind
kinds_at places kinds = map (λ i. slice_index_or kinds i k.Null) places
