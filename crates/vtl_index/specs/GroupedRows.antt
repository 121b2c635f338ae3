-- The rows of a table, grouped by their keys, as a look-up that contracts see.
use Rattle.std.specs.Prelude.{◌≡◌, ℕ}
use Rattle.vtl_cell.specs.Row.{Row}
use Rattle.vtl_rows.specs.Places.{row_at}
use Rattle.vtl_index.specs.Leads.{leads_of}
use Rattle.vtl_index.specs.RowIndex.{RowLookup}
use Rattle.vtl_index.specs.RowKeys.{key_at}
use Rattle.vtl_index.specs.declared.grouped_rows.GroupedRows.{GroupedRows}

abbrev pub lookup_of : GroupedRows → RowLookup
lookup_of g = record { rows = g.table.now.rows; key = g.key.items; nulls = g.nulls; p = g.p }

-- the key of the row at a place
abbrev pub keys_of : RowLookup → ℕ → Row
keys_of x i = key_at x.p x.key (row_at x.rows i)

-- the groups are those of the keys
abbrev pub AreByKey : GroupedRows → Type 0
AreByKey g = g.groups ≡ leads_of (key_at g.p g.key.items) g.table.now.rows
