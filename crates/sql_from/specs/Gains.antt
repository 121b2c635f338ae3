-- What becomes of the tuples so far, and of the marks of rows, where more tuples are made of which a filter keeps some.
use Rattle.std.specs.Prelude.{◌≡◌, ◌+◌, ◌==◌, ◌||◌, ◌<◌, ◌++◌, ℕ, Bool, false, List, filter, length, slice_index_or, Option}
use Rattle.std.specs.List.{list_any}
use Rattle.vtl_decimal.specs.declared.number.Fault.{Fault}
use Rattle.vtl_cell.specs.Outcome.{faults_by, join}
use Rattle.vtl_scalar.specs.Seen.{seen_of}
use Rattle.sql_tree.specs.declared.word_groups.JoinKind.{JoinKind}
use Rattle.sql_meaning.specs.From.{partners}
use Rattle.sql_from.specs.Joins.{Test, fault_of, joined_tuples, kept_fault, kept_tuples, pairs_fault, passes, with_number}
use Rattle.sql_from.specs.declared.pairs.Walked.{Walked}

-- Behind what was there stand those of the tuples made at which the filter is true; this fault, which came with making them, and
-- that of the filter are seen.
pub record Gains (filtered : Test) (fault : Option Fault) (made : List (List ℕ)) (before behind : Walked) : Type 0 where
  pub width : behind.rows.width ≡ before.rows.width
  pub rows : behind.rows.tuples ≡ before.rows.tuples ++ kept_tuples filtered made
  pub seen : seen_of behind.seen ≡ join (seen_of before.seen) (join fault (kept_fault filtered made))

-- these numbers are marked too, of those that have a mark
pub record AreMarked (numbers : List ℕ) (before behind : List Bool) : Type 0 where
  pub many : length behind ≡ length before
  pub marks : (j : ℕ) → j < length before → slice_index_or behind j false ≡ (slice_index_or before j false || list_any (λ i. i == j) numbers)

-- A tuple is tried with the rows of these numbers: the pairs are made, and their rows are marked.
pub record Tries (f filtered : Test) (x numbers : List ℕ) (before behind : Walked) (marks marks' : List Bool) : Type 0 where
  pub gains : Gains filtered (faults_by (fault_of f x) numbers) (partners (passes f) with_number numbers x) before behind
  pub marked : AreMarked (filter (passes f x) numbers) marks marks'

-- Behind a join of the tuples so far with so many rows stand those of its tuples at which the filter is true; the faults of the
-- condition at all pairs and of the filter at all tuples of the join are seen.
pub record IsJoined (kind : JoinKind) (f filtered : Test) (marks : List ℕ) (count : ℕ) (before behind : Walked) : Type 0 where
  pub width : behind.rows.width ≡ before.rows.width + 1
  pub rows : behind.rows.tuples ≡ kept_tuples filtered (joined_tuples kind f marks count before.rows.tuples)
  pub seen : seen_of behind.seen ≡ join (seen_of before.seen) (join (pairs_fault f count before.rows.tuples) (kept_fault filtered (joined_tuples kind f marks count before.rows.tuples)))
