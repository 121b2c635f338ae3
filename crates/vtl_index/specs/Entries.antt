-- Keys, the rows of each, and where each key is found.
use Rattle.std.specs.Prelude.{◌≡◌, ℕ, ◌*◌, List, [], Option, None, Some, length, slice_index_or}
use Rattle.vtl_cell.specs.Row.{Row}
use Rattle.vtl_index.specs.Keys.{is_at}
use Rattle.vtl_index.specs.Places.{AllFound, IsBacked, seek}
use Rattle.vtl_index.specs.declared.entries.Entries.{Entries}

-- the place of a key
abbrev pub place_in : Entries → Row → Option ℕ
place_in t key = seek (is_at t.cells.items t.width (length t.rows.items) key) key t.places.buckets.items t.places.others

-- the rows at a place, and none where there is no place
abbrev pub rows_at : List (List ℕ) → Option ℕ → List ℕ
rows_at rows None = []
rows_at rows (Some place) = slice_index_or rows place []

-- the rows of a key
abbrev pub rows_in : Entries → Row → List ℕ
rows_in t key = rows_at t.rows.items (place_in t key)

-- whole keys, of which each is found at its place
pub record IsIndexed (t : Entries) : Type 0 where
  pub whole : length t.cells.items ≡ length t.rows.items * t.width
  pub found : AllFound t.cells.items t.width (length t.rows.items) t.places.buckets.items t.places.others
  pub backed : IsBacked t.places.buckets.items t.places.others
