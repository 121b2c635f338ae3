-- A look-up by keys of rows, as contracts see it.
use Rattle.std.specs.Prelude.{ℕ, Bool, true, not, List, [], length, slice_get, if◌then◌else◌}
use Rattle.std.specs.Option.{unwrap_or}
use Rattle.vtl_cell.specs.Row.{Row}
use Rattle.vtl_decimal.specs.Settings.{Settings}
use Rattle.vtl_index.specs.Leads.{rows_with}
use Rattle.vtl_index.specs.RowKeys.{has_null, key_at}
use Rattle.vtl_index.specs.declared.row_keys.KeyColumn.{KeyColumn}
use Rattle.vtl_index.specs.declared.row_keys.NullKeys.{NullKeys}
use Rattle.vtl_index.specs.declared.row_keys.NullKeys.TheVariants.{Found, NotFound}

-- the rows, the columns of their keys, what becomes of nulls, and the settings by which an integer is made a number
pub record RowLookup : Type 0 where
  pub rows : List Row
  pub key : List KeyColumn
  pub nulls : NullKeys
  pub p : Settings

-- whether a key is looked for at all
abbrev pub is_sought : NullKeys → Row → Bool
is_sought Found key = true
is_sought NotFound key = not (has_null key)

-- the rows that are found by a key
abbrev pub found_rows : RowLookup → Row → List ℕ
found_rows x key = if is_sought x.nulls key then rows_with (key_at x.p x.key) x.rows key else []

-- the number of the first row that is found by a key, or how many rows there are
abbrev pub first_found : RowLookup → Row → ℕ
first_found x key = unwrap_or (slice_get (found_rows x key) 0) (length x.rows)
