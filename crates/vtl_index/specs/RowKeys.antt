-- Keys of rows: the cells of listed columns, as they count there.
use Rattle.std.specs.Prelude.{ℕ, ◌/◌, ◌-◌, ◌^◌, Bool, true, false, Ok, Err, List, [], ◌∷◌, ◌++◌, map, length, nat_lt}
use Rattle.std.specs.List.{fold, list_any, range_with_len}
use Rattle.std.specs.Hash.FoldHasher as folding
use Rattle.std.specs.declared.hash.FoldHasher.{FoldHasher}
use Rattle.vtl_cell.specs.Conversion.{as_kind}
use Rattle.vtl_cell.specs.Kinds.{is_null}
use Rattle.vtl_cell.specs.Outcome.{Outcome}
use Rattle.vtl_cell.specs.Row.{Row, column_of}
use Rattle.vtl_decimal.specs.Settings.{Settings}
use Rattle.vtl_cell.specs.contracts.cell.CellHash.TheImpl.{hash_input-value}
use Rattle.vtl_cell.specs.declared.cell.Cell.{Cell}
use Rattle.vtl_cell.specs.declared.cell.Cell.TheVariants as c
use Rattle.vtl_cell.specs.declared.kind.Kind.TheVariants as k
use Rattle.vtl_rows.specs.Places.{row_at}
use Rattle.vtl_rows.specs.declared.column.SortKey.{SortKey}
use Rattle.vtl_index.specs.declared.row_keys.Hashing.{Hashing}
use Rattle.vtl_index.specs.declared.row_keys.Hashing.TheVariants.{Plain, Salted}
use Rattle.vtl_index.specs.declared.row_keys.KeyColumn.{KeyColumn}
use Rattle.vtl_index.specs.declared.row_keys.KeyForm.{KeyForm}
use Rattle.vtl_index.specs.declared.row_keys.KeyForm.TheVariants.{AsIs, AsNumber}
use Rattle.vtl_index.specs.declared.row_keys.KeyedRows.{KeyedRows}
use Rattle.vtl_index.specs.declared.row_keys.RowKey.{RowKey}

-- the value, and null where there is a fault
abbrev pub or_null : Outcome Cell → Cell
or_null (Ok v) = v
or_null (Err f) = c.Null

-- a cell as it counts in a key
abbrev pub counted : Settings → KeyForm → Cell → Cell
counted p AsIs v = v
counted p AsNumber v = or_null (as_kind p k.Num v)

abbrev pub key_cell : Settings → Row → KeyColumn → Cell
key_cell p row at = counted p at.form (column_of at.column row)

-- the key of a row: the cells of the listed columns
abbrev pub key_at : Settings → List KeyColumn → Row → Row
key_at p columns row = map (key_cell p row) columns

-- a column whose cells count as they are
abbrev pub as_it_is : ℕ → KeyColumn
as_it_is column = record { column = column; form = AsIs }

abbrev pub has_null : Row → Bool
has_null key = list_any is_null key

-- ---- as the code holds them
abbrev pub key_of : RowKey → Row
key_of key = key_at key.p.now key.columns.now key.row.now

-- the key of the row at a place
abbrev pub keys_in : KeyedRows → ℕ → Row
keys_in keyed i = key_at keyed.p.now keyed.columns.now (row_at keyed.table.now.rows i)

abbrev pub count_in : KeyedRows → ℕ
count_in keyed = length keyed.table.now.rows

-- ---- columns to sort by
-- whether the column is one of so many
abbrev pub is_within : ℕ → KeyColumn → Bool
is_within width at = nat_lt at.column width

abbrev pub rising_by : KeyColumn → SortKey
rising_by at = record { column = at.column; falling = false }

-- ---- hashes
-- a hasher that takes in one more cell, by how it takes in bytes
abbrev pub with_cell : {S : Type 0} → (S → List ℕ → S) → S → Cell → S
with_cell write state cell = fold write state (hash_input-value.it cell)

-- the hash of cells
unfoldable pub cells_hash : Row → ℕ
cells_hash cells = folding.finish (fold (with_cell folding.write) folding.initial cells)

-- the cells in front of a key
abbrev pub salt_of : Hashing → Row
salt_of Plain = []
salt_of Salted = c.Bool true ∷ []

-- a hasher that took them in
abbrev pub begun : Hashing → FoldHasher
begun hashing = fold (with_cell folding.write) folding.initial (salt_of hashing)

-- the hash of a key
abbrev pub hash_by : Hashing → Row → ℕ
hash_by hashing key = cells_hash (salt_of hashing ++ key)

-- the hashes of the keys from a place up to another
abbrev pub hashes_by : Hashing → (ℕ → Row) → ℕ → ℕ → List ℕ
hashes_by hashing keys first end = map (λ i. hash_by hashing (keys i)) (range_with_len first (end - first))

-- the upper half of it
abbrev pub tag_of : ℕ → ℕ
tag_of hash = hash / (2 ^ 32)
