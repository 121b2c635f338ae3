-- The least and the greatest cell of a frame, by the places of the values that no value behind them beats.
use Rattle.std.specs.Prelude.{ℕ, ◌==◌, Bool, true, false, not, ◌&&◌, cond, List, [], ◌∷◌, ◌++◌, Option, Some, None}
use Rattle.std.specs.List.{list_any}
use Rattle.vtl_cell.specs.Kinds.{is_null}
use Rattle.vtl_cell.specs.Order.{cell_cmp}
use Rattle.vtl_cell.specs.Row.{column_of}
use Rattle.vtl_lists.specs.Sorting.{le_by}
use Rattle.vtl_cell.specs.declared.cell.Cell.{Cell}
use Rattle.vtl_cell.specs.declared.operator.AggKind.{AggKind}
use Rattle.vtl_cell.specs.declared.operator.AggKind.TheVariants as kinds

abbrev pub cell_in : List Cell → ℕ → Cell
cell_in cells k = column_of k cells

-- whether a cell is at least as good as another
abbrev pub le_of : AggKind → Cell → Cell → Bool
le_of kinds.Max = λ x y. le_by cell_cmp y x
le_of other = le_by cell_cmp

-- whether some value at these places is at least as good as a cell
abbrev pub is_beaten : (Cell → Cell → Bool) → (ℕ → Cell) → List ℕ → Cell → Bool
is_beaten le at ks x = list_any (λ k. not (is_null (at k)) && le (at k) x) ks

-- of these places those whose values no value behind them beats
abbrev pub best_places : (Cell → Cell → Bool) → (ℕ → Cell) → List ℕ → List ℕ
best_places le at [] = []
best_places le at (k ∷ ks) = cond (not (is_null (at k)) && not (is_beaten le at ks (at k))) (k ∷ best_places le at ks) (best_places le at ks)

abbrev pub first_of : List ℕ → Option ℕ
first_of [] = None
first_of (k ∷ ks) = Some k

-- ---- one place more, one less

-- whether the last place passes a test
abbrev pub is_last_beaten : (ℕ → Bool) → List ℕ → Bool
is_last_beaten beaten [] = false
is_last_beaten beaten (k ∷ []) = beaten k
is_last_beaten beaten (k ∷ j ∷ ks) = is_last_beaten beaten (j ∷ ks)

abbrev pub before_rest : Bool → ℕ → List ℕ → List ℕ
before_rest true k [] = []
before_rest true k (j ∷ ks) = k ∷ j ∷ ks
before_rest false k ks = k ∷ ks

-- without those at the end that pass a test, up to the last that does not
abbrev pub without_beaten : (ℕ → Bool) → List ℕ → List ℕ
without_beaten beaten [] = []
without_beaten beaten (k ∷ ks) = before_rest (beaten k) k (without_beaten beaten ks)

abbrev pub with_place : (Cell → Cell → Bool) → (ℕ → Cell) → List ℕ → ℕ → List ℕ
with_place le at ks k = cond (is_null (at k)) ks (without_beaten (λ j. le (at k) (at j)) ks ++ k ∷ [])

abbrev pub without_place : ℕ → List ℕ → List ℕ
without_place place [] = []
without_place place (k ∷ ks) = cond (k == place) ks (k ∷ ks)
