-- Slots by hash.
use Rattle.std.specs.Prelude.{◌≡◌, ℕ, Bool, ◌==◌, ◌&&◌, ◌-◌, ◌^◌, List, [], ◌∷◌, Option, None, Some, length, slice_get, bit_and, if◌then◌else◌}
use Rattle.std.specs.List.{find}
use Rattle.std.specs.Option.{option_map}
use Rattle.vtl_index.specs.declared.bucket.Bucket.{Bucket}
use Rattle.vtl_index.specs.declared.bucket.Slot.{Slot}

-- a slot that holds no key
abbrev pub is_free : Slot → Bool
is_free slot = slot.place == 2 ^ 64 - 1

-- the slots with the first free one filled
abbrev pub filled : Slot → List Slot → List Slot
filled slot [] = []
filled slot (s ∷ ss) = if is_free s then slot ∷ ss else s ∷ filled slot ss

-- the bucket of a hash among so many
abbrev pub bucket_at : ℕ → ℕ → ℕ
bucket_at hash count = bit_and hash (count - 1)

-- the slots of a bucket, and none where there is no bucket
abbrev pub slots_in : Option Bucket → List Slot
slots_in None = []
slots_in (Some bucket) = bucket.slots

-- the slots of a hash
abbrev pub slots_at : List Bucket → ℕ → List Slot
slots_at buckets hash = slots_in (slice_get buckets (bucket_at hash (length buckets)))

-- whether a slot has the hash, and a place that passes
abbrev pub is_match : (ℕ → Bool) → ℕ → Slot → Bool
is_match passes hash slot = slot.hash == hash && passes slot.place

-- the first place of a hash that passes
abbrev pub in_slots : (ℕ → Bool) → ℕ → List Slot → Option ℕ
in_slots passes hash slots = option_map (λ s. s.place) (find (is_match passes hash) slots)

-- the first free slot of the hash is filled, and other slots are as before
pub record IsFilled (slot : Slot) (old new : List Bucket) : Type 0 where
  pub count : length new ≡ length old
  pub here : (hash : ℕ) → bucket_at hash (length old) ≡ bucket_at slot.hash (length old) → slots_at new hash ≡ filled slot (slots_at old hash)
  pub there : (hash : ℕ) → (bucket_at hash (length old) ≡ bucket_at slot.hash (length old) → ⊥) → slots_at new hash ≡ slots_at old hash
