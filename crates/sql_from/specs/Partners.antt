-- EXISTS by a look-up, which is made once for a select.
use Rattle.std.specs.Prelude.{◌≡◌, ℕ, ◌+◌, ◌<◌, ◌==◌, Bool, not, true, List, length, slice_index}
use Rattle.std.specs.List.{list_all, list_any}
use Rattle.vtl_cell.specs.Row.{Row, column_of}
use Rattle.vtl_decimal.specs.Settings.{Settings}
use Rattle.vtl_rows.specs.Gathered.{picked_cell}
use Rattle.vtl_rows.specs.Places.{row_at}
use Rattle.vtl_rows.specs.declared.gather.Pick.{Pick}
use Rattle.vtl_index.specs.Matches.{matched}
use Rattle.sql_eval.specs.Placed.{has_partner, is_tied}
use Rattle.sql_eval.specs.declared.resolved.Tie.{Tie}
use Rattle.sql_from.specs.Held.{rows_held}
use Rattle.sql_from.specs.Joins.{with_number}
use Rattle.sql_from.specs.Keys.{all_paired, is_paired, row_in}
use Rattle.sql_from.specs.Rows.{combined}
use Rattle.sql_from.specs.Sources.{Sourced, parts_of}
use Rattle.sql_from.specs.declared.key_pairs.KeyPair.{KeyPair}
use Rattle.sql_from.specs.declared.partner_index.PartnerIndex.{PartnerIndex}

-- The column of a source at a place whose cell stands at a place of each row of FROM.
pub record IsPickOf (s : Sourced) (place : ℕ) (pick : Pick) : Type 0 where
  pub within : pick.part < length s.sources
  pub cell : (front : List ℕ) (last : ℕ) → length front + 1 ≡ length s.sources → column_of place (combined (parts_of s.sources) (with_number front last)) ≡ picked_cell (parts_of s.sources) (with_number front last) pick

-- an equality of EXISTS is that of a pair of columns
pub record IsTiedBy (s : Sourced) (lead : ℕ) (tie : Tie) (k : KeyPair) : Type 0 where
  pub same : (p : Settings) (inner : Row) (front : List ℕ) (last : ℕ) → length front + 1 ≡ length s.sources → is_tied p (combined (parts_of s.sources) (with_number front last)) inner tie ≡ is_paired p inner (row_in s lead (with_number front last)) k

-- where equalities of EXISTS are true, so are pairs of columns
abbrev pub AreTiesImplying : Sourced → ℕ → List Tie → List KeyPair → Type 0
AreTiesImplying s lead ties keys = (p : Settings) (inner : Row) (front : List ℕ) (last : ℕ) → length front + 1 ≡ length s.sources
    → list_all (is_tied p (combined (parts_of s.sources) (with_number front last)) inner) ties ≡ true → all_paired p inner (row_in s lead (with_number front last)) keys ≡ true

-- and the other way round
abbrev pub AreTiedBy : Sourced → ℕ → List Tie → List KeyPair → Type 0
AreTiedBy s lead ties keys = (p : Settings) (inner : Row) (front : List ℕ) (last : ℕ) → length front + 1 ≡ length s.sources
    → list_all (is_tied p (combined (parts_of s.sources) (with_number front last)) inner) ties ≡ all_paired p inner (row_in s lead (with_number front last)) keys

-- the rows that are found for a row of FROM
abbrev pub partners_at : PartnerIndex → List ℕ → ℕ → List ℕ
partners_at x front last = matched x.keys.matches (slice_index (with_number front last) x.keys.lead)

-- a row of the table makes each equality true
abbrev pub is_partner : Sourced → PartnerIndex → List ℕ → ℕ → ℕ → Bool
is_partner s x front last n = list_all (is_tied x.p (combined (parts_of s.sources) (with_number front last)) (row_at x.rows.now.rows n)) x.ties.items

-- At each row of FROM EXISTS is true where one of the rows found makes each equality true; of a whole look-up each row that is found
-- does.
pub record Answers (s : Sourced) (x : PartnerIndex) : Type 0 where
  pub lead : x.keys.lead < length s.sources
  pub has : (front : List ℕ) (last : ℕ) → length front + 1 ≡ length s.sources
      → has_partner x.p (rows_held s.held) x.table x.ties.items (combined (parts_of s.sources) (with_number front last)) ≡ list_any (is_partner s x front last) (partners_at x front last)
  pub whole : x.is_whole ≡ true → (front : List ℕ) (last : ℕ) → length front + 1 ≡ length s.sources
      → has_partner x.p (rows_held s.held) x.table x.ties.items (combined (parts_of s.sources) (with_number front last)) ≡ not (length (partners_at x front last) == 0)
