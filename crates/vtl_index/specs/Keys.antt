-- Keys of one width in one list of cells.
use Rattle.std.specs.Prelude.{ℕ, Bool, ◌*◌, ◌&&◌, List, nat_lt, take, drop}
use Rattle.std.specs.List.{fold}
use Rattle.std.specs.Hash as fed
use Rattle.std.specs.Hash.FoldHasher as folding
use Rattle.vtl_cell.specs.Row.{Row, same_row}
use Rattle.vtl_cell.specs.declared.cell.Cell.{Cell}
use Rattle.vtl_cell.specs.contracts.cell.CellHash.TheImpl.{hash_input-value}

-- the key at a place
abbrev pub key_at : List Cell → ℕ → ℕ → Row
key_at cells width place = take width (drop (place * width) cells)

-- whether a key is the one at a place, of so many
abbrev pub is_at : List Cell → ℕ → ℕ → Row → ℕ → Bool
is_at cells width count key place = nat_lt place count && same_row (key_at cells width place) key

-- the hash of a key
unfoldable pub key_hash : Row → ℕ
key_hash key = folding.finish (fold folding.write folding.initial (fed.slice hash_input-value.it key))
