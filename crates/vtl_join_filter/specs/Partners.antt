-- Cells of two operands that a condition equates, and the rows that go together by them.
use Rattle.std.specs.Prelude.{◌≡◌, ℕ, Bool, true, false, ◌<◌, ◌^◌, List, [], ◌∷◌, ◌++◌, length, map, None, Some, slice_index, unsigned_abs}
use Rattle.std.specs.List.{flat_map}
use Rattle.std.specs.Ordering.{is_eq}
use Rattle.vtl_decimal.specs.Settings.{Settings}
use Rattle.vtl_cell.specs.Kinds.{is_null}
use Rattle.vtl_cell.specs.Outcome.{fault_in}
use Rattle.vtl_cell.specs.Outcomes.{is_true}
use Rattle.vtl_cell.specs.Row.{Row}
use Rattle.vtl_cell.specs.ScalarComparison.{compared}
use Rattle.vtl_cell.specs.declared.cell.Cell.{Cell}
use Rattle.vtl_cell.specs.declared.cell.Cell.TheVariants as c
use Rattle.vtl_cell.specs.declared.kind.Kind.{Kind}
use Rattle.vtl_cell.specs.declared.kind.Kind.TheVariants as k
use Rattle.vtl_rows.specs.Gathered.{picked_cell}
use Rattle.vtl_rows.specs.Places.{row_at}
use Rattle.vtl_index.specs.RowIndex.{found_rows}
use Rattle.vtl_index.specs.RowKeys.{counted, key_at}
use Rattle.vtl_index.specs.declared.row_keys.KeyColumn.{KeyColumn}
use Rattle.vtl_index.specs.declared.row_keys.KeyForm.{KeyForm}
use Rattle.vtl_tree.specs.Value.{value}
use Rattle.vtl_expr.specs.Prepared.{prepared_exp}
use Rattle.vtl_join.specs.Crossing.{tuples_behind, up_to}
use Rattle.vtl_join.specs.Gatherings.{point_of}
use Rattle.vtl_join_filter.specs.Sifting.{Sifted, asked_of}
use Rattle.vtl_join_filter.specs.declared.keys.KeyPair.{KeyPair}
use Rattle.vtl_join_filter.specs.declared.partners.Numbers.{Numbers}
use Rattle.vtl_join_filter.specs.declared.partners.Numbers.TheVariants as numbers
use Rattle.vtl_join_filter.specs.declared.partners.Partner.{Partner}
use Rattle.vtl_join_filter.specs.declared.sieve.Asked.{Asked}

-- ---- keys
-- one kind is that of integers, the other that of numbers
abbrev pub are_mixed : Kind → Kind → Bool
are_mixed k.Int k.Num = true
are_mixed k.Num k.Int = true
are_mixed a b = false

-- a number has at most 18 digits; nothing is said of other values
abbrev pub IsInRange : Cell → Type 0
IsInRange (c.Num k) = unsigned_abs k < 10 ^ 18
IsInRange v = Unit {0}

-- two cells are one in keys, and not null
abbrev pub AreOneKey : Settings → KeyForm → (v w : Cell) → Type 0
AreOneKey p form v w = (counted p form v ≡ counted p form w) × (is_null (counted p form v) ≡ false)

-- where two cells are equal, they are one in keys
abbrev pub Meet : KeyForm → (v w : Cell) → Type 0
Meet form v w = (p : Settings) → compared is_eq p v w ≡ Some true → AreOneKey p form v w

-- ---- pairs of cells
abbrev pub is_true_at : Asked → List ℕ → Bool
is_true_at a tuple = is_true (value a.profile.now (prepared_exp a.condition) (point_of a.gathering tuple))

-- wherever the condition is true, a cell of one operand and one of a later operand are one in keys
pub record IsPair (a : Asked) (x : KeyPair) : Type 0 where
  pub before : x.asked.part < x.own.part
  pub meet : (tuple : List ℕ) → is_true_at a tuple ≡ true → AreOneKey a.profile.now x.form (picked_cell a.gathering.parts tuple x.asked) (picked_cell a.gathering.parts tuple x.own)

-- and these are the operands at two places
pub record IsPairBetween (a : Asked) (front last : ℕ) (x : KeyPair) : Type 0 where
  pub pair : IsPair a x
  pub asked : x.asked.part ≡ front
  pub own : x.own.part ≡ last

abbrev pub asked_column : KeyPair → KeyColumn
asked_column x = record { column = x.asked.column; form = x.form }

abbrev pub own_column : KeyPair → KeyColumn
own_column x = record { column = x.own.column; form = x.form }

-- ---- numbers of rows
abbrev pub numbers_of : Numbers → List ℕ
numbers_of (numbers.Below n) = up_to n
numbers_of (numbers.Found rows) = rows.now

-- those that are found behind the numbers in front
abbrev pub found_behind : Partner → List ℕ → List ℕ
found_behind x front = found_rows x.index (key_at x.index.p x.at.items (row_at x.asking.now.rows (slice_index front x.front)))

-- the points of the tuples that go on with one of these numbers, and then with any below these counts
abbrev pub points_behind : Asked → List ℕ → List ℕ → List ℕ → List Row
points_behind a front rest ns = map (point_of a.gathering) (flat_map (λ n. tuples_behind (front ++ n ∷ []) rest) ns)

-- to ask at the points of these numbers is as good as to ask at those of all numbers below one
abbrev pub AreEnough : Asked → List ℕ → ℕ → List ℕ → Type 0
AreEnough a front count ns = (rest : List ℕ) (s : Sifted) → asked_of a s (points_behind a front rest ns) ≡ asked_of a s (points_behind a front rest (up_to count))

-- the rows that it finds are enough
pub record IsPartner (a : Asked) (x : Partner) : Type 0 where
  pub enough : (front : List ℕ) → length front ≡ x.part → AreEnough a front (length x.index.rows) (found_behind x front)

-- ---- faults
-- the condition has no fault at any point
abbrev pub HasNoFault : Asked → Type 0
HasNoFault a = (r : Row) → fault_in (value a.profile.now (prepared_exp a.condition) r) ≡ None
