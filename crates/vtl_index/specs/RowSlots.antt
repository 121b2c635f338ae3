-- The first row of each key, in slots by the hash of the key.
use Rattle.std.specs.Prelude.{◌≡◌, ℕ, ◌+◌, ◌<◌, ◌≤◌, ◌==◌, ◌&&◌, Bool, true, false, List, Option, None, Some, length, min, slice_index_or, bit_and}
use Rattle.vtl_cell.specs.Row.{Row, same_row}
use Rattle.vtl_index.specs.FirstRows.{IsFirst}
use Rattle.vtl_index.specs.RowKeys.{hash_by, tag_of}
use Rattle.vtl_index.specs.declared.row_keys.Hashing.{Hashing}
use Rattle.vtl_index.specs.declared.row_slots.Place.{Place}
use Rattle.vtl_index.specs.declared.row_slots.Place.TheVariants as p
use Rattle.vtl_index.specs.declared.row_slots.RowSlot.{RowSlot}

-- the slot at a place
abbrev pub slot_at : List RowSlot → ℕ → RowSlot
slot_at slots i = slice_index_or slots i (record { tag = 0; row = 0 })

-- the place at which a hash is first looked for
abbrev pub start_of : ℕ → ℕ → ℕ
start_of mask hash = bit_and hash mask

-- the place before which it is found, or not at all
abbrev pub end_of : ℕ → List RowSlot → ℕ → ℕ
end_of mask slots hash = min (start_of mask hash + 128) (length slots)

-- whether a slot has the part of the hash, and its row the key
abbrev pub is_match : Hashing → (ℕ → Row) → Row → RowSlot → Bool
is_match hashing keys key slot = slot.tag == tag_of (hash_by hashing key) && same_row (keys slot.row) key

-- from a place up to another, slots hold one of n rows
abbrev pub AreUsed : List RowSlot → ℕ → ℕ → ℕ → Type 0
AreUsed slots n start place = (q : ℕ) → start ≤ q → q < place → (slot_at slots q).row < n

-- and none of them matches
abbrev pub NoneMatches : Hashing → (ℕ → Row) → List RowSlot → Row → ℕ → ℕ → Type 0
NoneMatches hashing keys slots key start place = (q : ℕ) → start ≤ q → q < place → is_match hashing keys key (slot_at slots q) ≡ false

-- a key has a slot that matches, with none before it that is free
pub record Stands (hashing : Hashing) (keys : ℕ → Row) (n mask : ℕ) (slots : List RowSlot) (key : Row) : Type 0 where
  pub place : ℕ
  pub behind : start_of mask (hash_by hashing key) ≤ place
  pub within : place < end_of mask slots (hash_by hashing key)
  pub matching : is_match hashing keys key (slot_at slots place) ≡ true
  pub used : AreUsed slots n (start_of mask (hash_by hashing key)) (place + 1)

-- a row that has the key, in its slot
pub record IsHeld (hashing : Hashing) (keys : ℕ → Row) (n mask : ℕ) (slots : List RowSlot) (key : Row) (row : ℕ) : Type 0 where
  pub stands : Stands hashing keys n mask slots key
  pub there : (slot_at slots stands.place).row ≡ row

-- a free slot behind slots that are used and do not match
pub record IsFree (hashing : Hashing) (keys : ℕ → Row) (n mask : ℕ) (slots : List RowSlot) (key : Row) (place : ℕ) : Type 0 where
  pub behind : start_of mask (hash_by hashing key) ≤ place
  pub within : place < end_of mask slots (hash_by hashing key)
  pub free : n ≤ (slot_at slots place).row
  pub used : AreUsed slots n (start_of mask (hash_by hashing key)) place
  pub none : NoneMatches hashing keys slots key (start_of mask (hash_by hashing key)) place

-- what a search finds
abbrev pub Seeks : Hashing → (ℕ → Row) → ℕ → ℕ → List RowSlot → Row → Place → Type 0
Seeks hashing keys n mask slots key (p.Held row) = IsHeld hashing keys n mask slots key row
Seeks hashing keys n mask slots key (p.Free place) = IsFree hashing keys n mask slots key place
Seeks hashing keys n mask slots key p.Unknown = NoneMatches hashing keys slots key (start_of mask (hash_by hashing key)) (end_of mask slots (hash_by hashing key))

-- the keys of the rows before this one stand in the slots, which hold none but the first row of each key
pub record IsFilled (hashing : Hashing) (keys : ℕ → Row) (n mask : ℕ) (slots : List RowSlot) (i : ℕ) : Type 0 where
  pub stands : (j : ℕ) → j < i → Stands hashing keys n mask slots (keys j)
  pub firsts : (q : ℕ) → (slot_at slots q).row < n → (j : ℕ) → j < (slot_at slots q).row → same_row (keys j) (keys (slot_at slots q).row) ≡ false

-- what a meeting says of a row: the first row that has its key, and the slots are filled with one row more
abbrev pub Meets : Hashing → (ℕ → Row) → ℕ → ℕ → List RowSlot → ℕ → Option ℕ → Type 0
Meets hashing keys n mask slots i None = Unit {0}
Meets hashing keys n mask slots i (Some lead) = IsFirst keys n (keys i) lead × IsFilled hashing keys n mask slots (i + 1)
