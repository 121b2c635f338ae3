-- Joins of tuples of row numbers.
use Rattle.std.specs.Prelude.{ℕ, Bool, true, false, not, List, [], ◌∷◌, ◌++◌, map, filter, length, slice_index_or, Option, Ok, if◌then◌else◌}
use Rattle.std.specs.List.{flat_map, range_with_len}
use Rattle.vtl_decimal.specs.declared.number.Fault.{Fault}
use Rattle.vtl_cell.specs.Outcome.{Outcome, after, fault_in, faults_by}
use Rattle.vtl_cell.specs.Outcomes.{is_true}
use Rattle.vtl_cell.specs.declared.cell.Cell.{Cell}
use Rattle.vtl_cell.specs.declared.cell.Cell.TheVariants as c
use Rattle.vtl_rows.specs.Tables.{Listed}
use Rattle.sql_tree.specs.declared.word_groups.JoinKind.{JoinKind}
use Rattle.sql_tree.specs.declared.word_groups.JoinKind.TheVariants as joining
use Rattle.sql_meaning.specs.From.{joined_by, pairs_by, partners, partners_or_alone}

-- ---- conditions

-- the value of a condition at each tuple
abbrev pub Test : Type 0
Test = List ℕ → Outcome Cell

-- whether a condition is true, or its fault
abbrev pub told : Outcome Cell → Outcome Bool
told m = after m (λ v. Ok (is_true (Ok v)))

-- ---- one source more, of so many rows

abbrev pub numbers_to : ℕ → List ℕ
numbers_to count = range_with_len 0 count

abbrev pub with_number : List ℕ → ℕ → List ℕ
with_number x j = x ++ j ∷ []

-- a condition at a tuple with one number more
abbrev pub passes : Test → List ℕ → ℕ → Bool
passes f x j = is_true (f (with_number x j))

abbrev pub fault_of : Test → List ℕ → ℕ → Option Fault
fault_of f x j = fault_in (f (with_number x j))

abbrev pub pairs_with : Test → ℕ → List ℕ → List (List ℕ)
pairs_with f count x = partners (passes f) with_number (numbers_to count) x

-- the numbers of missing parts
abbrev pub marks_of : List Listed → List ℕ
marks_of ts = map (λ t. length t.rows) ts

-- the join of tuples with the rows of a source; the number of a missing part is that of its rows
abbrev pub joined_tuples : JoinKind → Test → List ℕ → ℕ → List (List ℕ) → List (List ℕ)
joined_tuples kind f marks count tuples = joined_by kind (passes f) with_number (λ x. with_number x count) (with_number marks) tuples (numbers_to count)

-- the fault of a condition over all pairs
abbrev pub pairs_fault : Test → ℕ → List (List ℕ) → Option Fault
pairs_fault f count tuples = faults_by (λ x. faults_by (fault_of f x) (numbers_to count)) tuples

-- each tuple with each row
abbrev pub crossed_tuples : ℕ → List (List ℕ) → List (List ℕ)
crossed_tuples count tuples = pairs_by with_number tuples (numbers_to count)

-- ---- a join, from the left and then from the right

abbrev pub keeps_left : JoinKind → Bool
keeps_left joining.Inner = false
keeps_left joining.Left = true
keeps_left joining.Full = true

abbrev pub keeps_right : JoinKind → Bool
keeps_right joining.Inner = false
keeps_right joining.Left = false
keeps_right joining.Full = true

-- what becomes of one left tuple
abbrev pub from_left : Bool → Test → ℕ → List ℕ → List (List ℕ)
from_left keeps f count x = if keeps then partners_or_alone (passes f) with_number (λ y. with_number y count) (numbers_to count) x else pairs_with f count x

-- the numbers of the rows that each tuple is a pair with, one tuple after the other
abbrev pub partner_numbers : Test → ℕ → List (List ℕ) → List ℕ
partner_numbers f count xs = flat_map (λ x. filter (passes f x) (numbers_to count)) xs

-- the numbers below this one that are not marked, behind those of missing parts
abbrev pub unmarked_to : List ℕ → List Bool → ℕ → List (List ℕ)
unmarked_to marks met count = map (with_number marks) (filter (λ j. not (slice_index_or met j false)) (numbers_to count))

abbrev pub unmarked : List ℕ → List Bool → List (List ℕ)
unmarked marks met = unmarked_to marks met (length met)

-- ---- the first source, and WHERE

abbrev pub singles : ℕ → List (List ℕ)
singles count = map (λ i. i ∷ []) (numbers_to count)

abbrev pub kept_tuples : Test → List (List ℕ) → List (List ℕ)
kept_tuples f tuples = filter (λ x. is_true (f x)) tuples

abbrev pub kept_fault : Test → List (List ℕ) → Option Fault
kept_fault f tuples = faults_by (λ x. fault_in (f x)) tuples

-- ---- conditions in turn

-- each is tried where all before it are true
abbrev pub in_turn : List Test → Test
in_turn [] x = Ok (c.Bool true)
in_turn (f ∷ fs) x = after (f x) (λ v. if is_true (Ok v) then in_turn fs x else Ok v)
