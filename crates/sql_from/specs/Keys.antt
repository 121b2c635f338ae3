-- Joins by equal cells: which columns of two sources are equated, as keys.
use Rattle.std.specs.Prelude.{◌≡◌, ℕ, ◌+◌, ◌-◌, ◌<◌, ◌==◌, ◌&&◌, ◌||◌, Bool, true, false, List, ◌∷◌, [], length, map, slice_get, slice_index, Option, None, Some}
use Rattle.std.specs.List.{list_all}
use Rattle.vtl_cell.specs.Outcome.{fault_in}
use Rattle.vtl_cell.specs.Outcomes.{is_true}
use Rattle.vtl_cell.specs.Row.{Row, column_of}
use Rattle.vtl_cell.specs.Scalars.{scalar_of}
use Rattle.vtl_decimal.specs.Settings.{Settings}
use Rattle.vtl_cell.specs.declared.cell.Cell.{Cell}
use Rattle.vtl_cell.specs.declared.operator.ScalarOp.TheVariants as op
use Rattle.vtl_rows.specs.Gathered.{part_at}
use Rattle.vtl_rows.specs.Places.{row_at}
use Rattle.vtl_rows.specs.Tables.{Listed}
use Rattle.vtl_rows.specs.declared.gather.Pick.{Pick}
use Rattle.vtl_index.specs.declared.row_keys.KeyColumn.{KeyColumn}
use Rattle.vtl_index.specs.declared.row_keys.KeyForm.TheVariants.{AsNumber}
use Rattle.sql_tree.specs.Trees as tree
use Rattle.sql_tree.specs.Trees.{Exp}
use Rattle.sql_tree.specs.declared.parts.Column.{Column}
use Rattle.sql_meaning.specs.Plans.{conjuncts}
use Rattle.sql_meaning.specs.Values.{place_in}
use Rattle.sql_from.specs.Joins.{with_number}
use Rattle.sql_from.specs.Rows.{combined, picks_from}
use Rattle.sql_from.specs.Sources.{Sourced, parts_of, scope_held}
use Rattle.sql_from.specs.Standing.{condition_at}
use Rattle.sql_from.specs.declared.key_pairs.KeyPair.{KeyPair}

-- ---- cells

-- an equality of two cells is true, which no equality with null is
abbrev pub are_equal : Settings → Cell → Cell → Bool
are_equal p a b = is_true (scalar_of p op.Equal (a ∷ b ∷ []))

-- ---- where they stand

-- The column of a source at a place whose cell is that of a named column, in each row of FROM.
pub record IsSpot (s : Sourced) (x : Column) (pick : Pick) : Type 0 where
  pub within : pick.part < length s.sources
  pub cell : (front : List ℕ) (last : ℕ) → length front + 1 ≡ length s.sources
      → column_of (place_in (scope_held s.sources) x) (combined (parts_of s.sources) (with_number front last)) ≡ column_of pick.column (row_at (part_at (parts_of s.sources) pick.part).rows (slice_index (with_number front last) pick.part))

-- where the cell of a column stands in each row of FROM, if there is one
abbrev pub spot_of : Sourced → Column → Option Pick
spot_of s x = slice_get (picks_from 0 (parts_of s.sources)) (place_in (scope_held s.sources) x)

-- whether that is in the source at this place
abbrev pub stands_in : ℕ → Option Pick → Bool
stands_in n None = false
stands_in n (Some pick) = pick.part == n

-- the last source
abbrev pub last_of : Sourced → Listed
last_of s = part_at (parts_of s.sources) (length s.sources - 1)

-- the row of the source at a place, in a tuple
abbrev pub row_in : Sourced → ℕ → List ℕ → Row
row_in s place front = row_at (part_at (parts_of s.sources) place).rows (slice_index front place)

-- ---- equalities of columns

-- whether one is a column of the last source and the other one of the source that leads
abbrev pub are_linked : Sourced → ℕ → Exp → Exp → Bool
are_linked s lead (tree.column x) (tree.column y) =
    (stands_in (length s.sources - 1) (spot_of s x) && stands_in lead (spot_of s y)) || (stands_in (length s.sources - 1) (spot_of s y) && stands_in lead (spot_of s x))
are_linked s lead a b = false

-- an equality of two such columns
abbrev pub is_link : Sourced → ℕ → Exp → Bool
is_link s lead (tree.binary a op.Equal b) = are_linked s lead a b
is_link s lead e = false

-- each part of a condition is such an equality
pub record IsLinked (s : Sourced) (lead : ℕ) (e : Exp) : Type 0 where
  pub before : lead + 1 < length s.sources
  pub links : list_all (is_link s lead) (conjuncts e) ≡ true

-- there is one condition, and it is such a one
abbrev pub AreLinked : Sourced → ℕ → List Exp → Type 0
AreLinked s lead [] = ⊥
AreLinked s lead (e ∷ []) = IsLinked s lead e
AreLinked s lead es = ⊥

-- how many rows the source that leads and the last one have
abbrev pub linked_count : Sourced → ℕ → ℕ
linked_count s lead = length (part_at (parts_of s.sources) lead).rows + length (last_of s).rows

-- ---- pairs of columns

-- a column of a row of the last source equals one of a row of the source that leads
abbrev pub is_paired : Settings → Row → Row → KeyPair → Bool
is_paired p own asked k = are_equal p (column_of k.own own) (column_of k.asked asked)

abbrev pub all_paired : Settings → Row → Row → List KeyPair → Bool
all_paired p own asked keys = list_all (is_paired p own asked) keys

-- an equality of two columns is that of a pair
abbrev pub IsPairOf : Sourced → ℕ → Column → Column → KeyPair → Type 0
IsPairOf s lead x y k = (p : Settings) (front : List ℕ) (last : ℕ) → length front + 1 ≡ length s.sources
    → are_equal p (column_of (place_in (scope_held s.sources) x) (combined (parts_of s.sources) (with_number front last))) (column_of (place_in (scope_held s.sources) y) (combined (parts_of s.sources) (with_number front last)))
    ≡ is_paired p (row_at (last_of s).rows last) (row_in s lead front) k

-- at a pair of a tuple and a row a condition has no fault, and with it the first pairs of columns come to all
pub record IsPaired (p : Settings) (s : Sourced) (lead : ℕ) (e : Exp) (first all : List KeyPair) (front : List ℕ) (last : ℕ) : Type 0 where
  pub sound : fault_in (condition_at p s e (with_number front last)) ≡ None
  pub same : (all_paired p (row_at (last_of s).rows last) (row_in s lead front) first && is_true (condition_at p s e (with_number front last))) ≡ all_paired p (row_at (last_of s).rows last) (row_in s lead front) all

abbrev pub ArePaired : Sourced → ℕ → Exp → List KeyPair → List KeyPair → Type 0
ArePaired s lead e first all = (p : Settings) (front : List ℕ) (last : ℕ) → length front + 1 ≡ length s.sources → IsPaired p s lead e first all front last

-- where a condition is true of a pair of a tuple and a row, the first pairs of columns come to all
abbrev pub AreImplied : Sourced → ℕ → Exp → List KeyPair → List KeyPair → Type 0
AreImplied s lead e first all = (p : Settings) (front : List ℕ) (last : ℕ) → length front + 1 ≡ length s.sources → is_true (condition_at p s e (with_number front last)) ≡ true
    → all_paired p (row_at (last_of s).rows last) (row_in s lead front) first ≡ true → all_paired p (row_at (last_of s).rows last) (row_in s lead front) all ≡ true

-- where conditions are true of a pair of a tuple and a row, so are all pairs of columns
abbrev pub AllImplied : Sourced → ℕ → List Exp → List KeyPair → Type 0
AllImplied s lead es keys = (p : Settings) (front : List ℕ) (last : ℕ) → length front + 1 ≡ length s.sources → list_all (λ e. is_true (condition_at p s e (with_number front last))) es ≡ true
    → all_paired p (row_at (last_of s).rows last) (row_in s lead front) keys ≡ true

-- and the other way round
abbrev pub AllPaired : Sourced → ℕ → List Exp → List KeyPair → Type 0
AllPaired s lead es keys = (p : Settings) (front : List ℕ) (last : ℕ) → length front + 1 ≡ length s.sources
    → list_all (λ e. is_true (condition_at p s e (with_number front last))) es ≡ all_paired p (row_at (last_of s).rows last) (row_in s lead front) keys

-- ---- keys

-- the columns of keys, each as a number where it is an integer
abbrev pub as_number : ℕ → KeyColumn
as_number column = record { column = column; form = AsNumber }

abbrev pub own_columns : List KeyPair → List KeyColumn
own_columns keys = map (λ k. as_number k.own) keys

abbrev pub asked_columns : List KeyPair → List KeyColumn
asked_columns keys = map (λ k. as_number k.asked) keys
