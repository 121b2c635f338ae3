-- Rows that were seen, in slots by the hash of their cells in the columns of keys.
use Rattle.std.specs.Prelude.{◌≡◌, ℕ, ◌+◌, ◌<◌, ◌≤◌, ◌^◌, ◌/◌, ◌==◌, ◌&&◌, Bool, true, false, List, Option, None, Some, length, map, take, slice_index_or, bit_and}
use Rattle.std.specs.List.{fold, range_with_len}
use Rattle.std.specs.Hash.FoldHasher as folding
use Rattle.vtl_lists.specs.Apart.{all_apart}
use Rattle.vtl_cell.specs.Row.{Row, column_of}
use Rattle.vtl_cell.specs.declared.cell.Cell.{Cell}
use Rattle.vtl_cell.specs.contracts.cell.CellHash.TheImpl.{hash_input-value}
use Rattle.vtl_rows.specs.declared.column.SortKey.{SortKey}
use Rattle.vtl_rows.specs.declared.seen.Probe.{Probe}
use Rattle.vtl_rows.specs.declared.seen.Slot.{Slot}
use Rattle.vtl_rows.specs.declared.seen.Place.{Place}
use Rattle.vtl_rows.specs.declared.seen.Place.TheVariants as p
use Rattle.vtl_rows.specs.declared.seen.Meeting.{Meeting}
use Rattle.vtl_rows.specs.declared.seen.Meeting.TheVariants as m
use Rattle.vtl_rows.specs.Keys.{FindsSame, tie_by}
use Rattle.vtl_rows.specs.Places.{row_at}

-- the cells of a row in the columns of keys
abbrev pub key_cells : List SortKey → Row → List Cell
key_cells keys row = map (λ k. column_of k.column row) keys

-- a hasher that takes in one more cell, by how it takes in bytes
abbrev pub with_cell : {S : Type 0} → (S → List ℕ → S) → S → Cell → S
with_cell write state cell = fold write state (hash_input-value.it cell)

-- the hash of a row
unfoldable pub row_hash : List SortKey → Row → ℕ
row_hash keys row = folding.finish (fold (with_cell folding.write) folding.initial (key_cells keys row))

-- the upper half of a hash
abbrev pub tag_of : ℕ → ℕ
tag_of hash = hash / (2 ^ 32)

-- where a row is looked for
abbrev pub probe_of : List SortKey → ℕ → Row → ℕ → Probe
probe_of keys mask row i = record { start = bit_and (row_hash keys row) mask; tag = tag_of (row_hash keys row); row = i }

-- the same for this many rows, from one on
abbrev pub probes_of : List SortKey → ℕ → List Row → ℕ → ℕ → List Probe
probes_of keys mask rows first count = map (λ i. probe_of keys mask (row_at rows i) i) (range_with_len first count)

-- the slot at a place
abbrev pub slot_at : List Slot → ℕ → Slot
slot_at slots i = slice_index_or slots i (record { tag = 0; row = 0 })

-- whether a slot has the part of the hash, and its row ties
abbrev pub is_match : List SortKey → List Row → Probe → Slot → Bool
is_match keys rows probe slot = slot.tag == probe.tag && tie_by keys (row_at rows slot.row) (row_at rows probe.row)

-- from the first place of a row up to another, slots hold rows before it
abbrev pub AreUsed : List Slot → ℕ → ℕ → ℕ → Type 0
AreUsed slots start place i = (k : ℕ) → start ≤ k → k < place → (slot_at slots k).row < i

-- and none of them matches
abbrev pub NoneMatches : List SortKey → List Row → List Slot → Probe → ℕ → Type 0
NoneMatches keys rows slots probe place = (k : ℕ) → probe.start ≤ k → k < place → is_match keys rows probe (slot_at slots k) ≡ false

-- a row before this one ties
abbrev pub Repeats : List SortKey → List Row → ℕ → Type 0
Repeats keys rows i = (j : ℕ) × (j < i) × (tie_by keys (row_at rows j) (row_at rows i) ≡ true)

-- none does
abbrev pub IsNew : List SortKey → List Row → ℕ → Type 0
IsNew keys rows i = (j : ℕ) → j < i → tie_by keys (row_at rows j) (row_at rows i) ≡ false

-- a free slot behind slots that are used and do not match
pub record IsFree (keys : List SortKey) (rows : List Row) (slots : List Slot) (probe : Probe) (place : ℕ) : Type 0 where
  pub behind : probe.start ≤ place
  pub within : place < length slots
  pub free : probe.row ≤ (slot_at slots place).row
  pub used : AreUsed slots probe.start place probe.row
  pub none : NoneMatches keys rows slots probe place

-- what a search finds
abbrev pub Finds : List SortKey → List Row → List Slot → Probe → Place → Type 0
Finds keys rows slots probe p.Same = Repeats keys rows probe.row
Finds keys rows slots probe (p.Free place) = IsFree keys rows slots probe place
Finds keys rows slots probe p.Unknown = Unit {0}

-- the row of a probe has a slot from its start on, with none in between that is free
pub record Stands (slots : List Slot) (probe : Probe) (i : ℕ) : Type 0 where
  pub place : ℕ
  pub behind : probe.start ≤ place
  pub tagged : (slot_at slots place).tag ≡ probe.tag
  pub held : (slot_at slots place).row ≡ probe.row
  pub used : AreUsed slots probe.start place i

-- the rows before this one have slots
abbrev pub Covers : List SortKey → List Row → ℕ → List Slot → ℕ → Type 0
Covers keys rows mask slots i = (j : ℕ) → j < i → Stands slots (probe_of keys mask (row_at rows j) j) i

-- what a meeting says of a row
abbrev pub Tells : List SortKey → List Row → ℕ → ℕ → List Slot → Meeting → Type 0
Tells keys rows i mask slots m.New = IsNew keys rows i × Covers keys rows mask slots (i + 1)
Tells keys rows i mask slots m.Repeat = Repeats keys rows i
Tells keys rows i mask slots m.Unknown = Unit {0}

-- no two of the rows before one tie, and they have slots
abbrev pub IsNewUpTo : List SortKey → List Row → ℕ → List Slot → ℕ → Type 0
IsNewUpTo keys rows mask slots i = (all_apart (tie_by keys) (take i rows) ≡ true) × Covers keys rows mask slots i

-- what a search among the rows before one tells, if it is not given up
abbrev pub TellsUpTo : List SortKey → List Row → ℕ → List Slot → ℕ → Option (Option ℕ) → Type 0
TellsUpTo keys rows mask slots end None = Unit {0}
TellsUpTo keys rows mask slots end (Some None) = IsNewUpTo keys rows mask slots end
TellsUpTo keys rows mask slots end (Some (Some place)) = FindsSame (tie_by keys) rows (Some place)
