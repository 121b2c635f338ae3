-- What a look-up by keys finds for a tuple.
use Rattle.std.specs.Prelude.{◌≡◌, ℕ, ◌+◌, ◌<◌, List, filter, length, slice_index, true, None}
use Rattle.vtl_decimal.specs.Settings.{Settings}
use Rattle.vtl_rows.specs.Tables.{Listed}
use Rattle.vtl_index.specs.Matches.{matched}
use Rattle.sql_from.specs.Joins.{Test, fault_of, numbers_to, passes}
use Rattle.vtl_index.specs.declared.row_keys.NullKeys.TheVariants.{NotFound}
use Rattle.sql_from.specs.Keys.{asked_columns, own_columns}
use Rattle.sql_from.specs.declared.key_pairs.KeyPair.{KeyPair}
use Rattle.sql_from.specs.declared.key_lookup.JoinLookup.{JoinLookup}
use Rattle.sql_from.specs.declared.key_lookup.KeyLookup.{KeyLookup}

-- the rows that are found for a tuple
abbrev pub found_of : JoinLookup → List ℕ → List ℕ
found_of l front = matched l.keys.matches (slice_index front l.keys.lead)

-- Each row with which a condition is true of a tuple is found, and the condition has no fault; of a whole look-up it is true with each
-- row that is found. Tuples have so many numbers with a row.
pub record Finds (width : ℕ) (f : Test) (l : JoinLookup) : Type 0 where
  pub lead : l.keys.lead + 1 < width
  pub sound : (front : List ℕ) (last : ℕ) → length front + 1 ≡ width → fault_of f front last ≡ None
  pub found : (front : List ℕ) → length front + 1 ≡ width → filter (passes f front) (found_of l front) ≡ filter (passes f front) (numbers_to l.keys.count)
  pub whole : l.is_whole ≡ true → (front : List ℕ) → length front + 1 ≡ width → found_of l front ≡ filter (passes f front) (numbers_to l.keys.count)

-- and a filter takes tuples of that width
pub record IsSound (filtered width : ℕ) (f : Test) (l : JoinLookup) : Type 0 where
  pub wide : filtered ≡ width
  pub finds : Finds width f l

-- a look-up of the rows of a table by columns of its own, asked with the rows of a table that leads
pub record IsKeyed (own : Listed) (lead : ℕ) (table : Listed) (keys : List KeyPair) (p : Settings) (l : KeyLookup) : Type 0 where
  pub lead_is : l.lead ≡ lead
  pub count_is : l.count ≡ length own.rows
  pub matches_are : l.matches ≡ record { index = record { rows = own.rows; key = own_columns keys; nulls = NotFound; p = p }; at = asked_columns keys; asking = table.rows }
