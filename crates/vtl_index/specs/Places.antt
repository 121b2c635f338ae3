-- Where keys are found: in slots by their hashes, else in a map by their order.
use Rattle.std.specs.Prelude.{◌≡◌, ℕ, Bool, true, false, ◌-◌, ◌^◌, ◌<◌, List, Option, None, Some, Vec, IsSome, if◌then◌else◌}
use Rattle.std.specs.BTreeMap.{BTreeMap, get_by}
use Rattle.std.specs.Cmp.Lexicographic.{slice_cmp}
use Rattle.std.specs.List.{list_any}
use Rattle.std.specs.Option.{option_or}
use Rattle.std.specs.declared.alloc.Global.{Global}
use Rattle.vtl_cell.specs.Row.{Row, same_row}
use Rattle.vtl_cell.specs.declared.cell.Cell.{Cell}
use Rattle.vtl_cell.specs.contracts.cell.CellOrd.TheImpl.{cmp-value}
use Rattle.vtl_index.specs.Buckets.{in_slots, is_free, slots_at}
use Rattle.vtl_index.specs.Keys.{is_at, key_at, key_hash}
use Rattle.vtl_index.specs.declared.bucket.Bucket.{Bucket}

abbrev pub Others : Type 0
Others = BTreeMap (Vec Cell Global) ℕ

-- the place of a key in the map
abbrev pub other_place : Row → Others → Option ℕ
other_place key others = get_by (λ k. slice_cmp cmp-value.it key k.items) others

-- a place that passes
abbrev pub passing : (ℕ → Bool) → Option ℕ → Option ℕ
passing passes None = None
passing passes (Some place) = if passes place then Some place else None

-- the place of a key in the map, where it passes
abbrev pub in_others : (ℕ → Bool) → Row → Others → Option ℕ
in_others passes key others = passing passes (other_place key others)

-- the place of a key that passes: by its hash, and where no slot of the hash is free in the map
abbrev pub seek : (ℕ → Bool) → Row → List Bucket → Others → Option ℕ
seek passes key buckets others =
    let slots = slots_at buckets (key_hash key) in
    option_or (in_slots passes (key_hash key) slots) (if list_any is_free slots then None else in_others passes key others)

-- a key of the map has no free slot
abbrev pub IsBacked : List Bucket → Others → Type 0
IsBacked buckets others = (key : Row) → IsSome (other_place key others) → list_any is_free (slots_at buckets (key_hash key)) ≡ false

-- no free slot passes
abbrev pub IsTest : (ℕ → Bool) → Type 0
IsTest passes = passes (2 ^ 64 - 1) ≡ false

-- each key is found as before, but for one that was not found and the new place
abbrev pub KeepsOthers : Row → ℕ → List Bucket → Others → List Bucket → Others → Type 0
KeepsOthers key place buckets others buckets' others' =
    (passes : ℕ → Bool) (k : Row) → IsTest passes → passes place ≡ false → (same_row key k ≡ true → seek passes k buckets others ≡ None)
    → seek passes k buckets' others' ≡ seek passes k buckets others

-- the key is found at the new place, where no other one passes
abbrev pub TakesPlace : Row → ℕ → List Bucket → Others → Type 0
TakesPlace key place buckets others =
    (passes : ℕ → Bool) → passes place ≡ true → ((e : ℕ) → passes e ≡ true → e ≡ place) → seek passes key buckets others ≡ Some place

-- each of the first keys, of so many, is found at its place
abbrev pub FoundBelow : ℕ → List Cell → ℕ → ℕ → List Bucket → Others → Type 0
FoundBelow i cells width count buckets others =
    (e : ℕ) → e < i → seek (is_at cells width count (key_at cells width e)) (key_at cells width e) buckets others ≡ Some e

-- each key is found at its place
abbrev pub AllFound : List Cell → ℕ → ℕ → List Bucket → Others → Type 0
AllFound cells width count buckets others = FoundBelow count cells width count buckets others

-- no two keys are alike
abbrev pub IsApart : List Cell → ℕ → ℕ → Type 0
IsApart cells width count = (d e : ℕ) → d < count → e < count → key_at cells width d ≡ key_at cells width e → d ≡ e

-- each key is found as before
abbrev pub FindsSame : List Bucket → Others → List Bucket → Others → Type 0
FindsSame buckets others buckets' others' = (passes : ℕ → Bool) (k : Row) → seek passes k buckets' others' ≡ seek passes k buckets others
