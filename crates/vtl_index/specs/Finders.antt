-- The leads of a table's rows, and how a key's is found.
use Rattle.std.specs.Prelude.{◌≡◌, ℕ, List, take}
use Rattle.vtl_cell.specs.Row.{Row}
use Rattle.vtl_index.specs.FirstRows.{IsKeyOrder}
use Rattle.vtl_index.specs.Leads.{leads_of}
use Rattle.vtl_index.specs.RowKeys.{count_in, key_at, keys_in}
use Rattle.vtl_index.specs.RowSlots.{IsFilled}
use Rattle.vtl_index.specs.declared.finder.Finder.{Finder}
use Rattle.vtl_index.specs.declared.finder.Finder.TheVariants.{ByHash, InOrder}
use Rattle.vtl_index.specs.declared.finder.Led.{Led}
use Rattle.vtl_index.specs.declared.row_keys.Hashing.{Hashing}
use Rattle.vtl_index.specs.declared.row_keys.Hashing.TheVariants.{Plain}
use Rattle.vtl_index.specs.declared.row_keys.KeyedRows.{KeyedRows}
use Rattle.vtl_index.specs.declared.row_slots.RowSlots.{RowSlots}

-- every key is found: in the slots, or in the order
abbrev pub IsFinder : (ℕ → Row) → ℕ → Finder → Type 0
IsFinder keys n (ByHash t) = IsFilled t.hashing keys n t.mask t.slots.items n
IsFinder keys n (InOrder order) = IsKeyOrder keys n order.items

-- how it hashes keys; where it needs no hash, any will do
abbrev pub hashing_of : Finder → Hashing
hashing_of (ByHash t) = t.hashing
hashing_of (InOrder order) = Plain

-- the first row that has the key of each row
abbrev pub leads_in : KeyedRows → List ℕ
leads_in keyed = leads_of (key_at keyed.p.now keyed.columns.now) keyed.table.now.rows

-- the rows before one stand in the slots, and these are their leads
pub record IsLedUpTo (keyed : KeyedRows) (slots : RowSlots) (leads : List ℕ) (i : ℕ) : Type 0 where
  pub told : leads ≡ take i (leads_in keyed)
  pub filled : IsFilled slots.hashing (keys_in keyed) (count_in keyed) slots.mask slots.slots.items i

pub record IsLed (keyed : KeyedRows) (led : Led) : Type 0 where
  pub leads : led.leads.items ≡ leads_in keyed
  pub finder : IsFinder (keys_in keyed) (count_in keyed) led.finder
