-- The rows of a select that is not grouped, one after the other.
use Rattle.std.proofs.Common.{◌≡◌, List, [], ◌∷◌, ◌++◌, map, Option, None, refl, sym, ap, ◌∙◌}
use Rattle.std.specs.List.{flat_map}
use Rattle.vtl_decimal.specs.declared.number.Fault.{Fault}
use Rattle.vtl_cell.specs.Outcome.{Outcome, fault_in, faults_by, join, unless}
use Rattle.vtl_cell.specs.Row.{Row}
use Rattle.vtl_cell.specs.declared.cell.Cell.{Cell}
use Rattle.sql_meaning.specs.Outcomes.{cell_or_null, row_at, row_fault}
use Rattle.sql_meaning.specs.Selects.{appended, rows_in}
use Rattle.sql_meaning.proofs.Faulted.{fault_unless}
use Rattle.sql_exec.proofs.Added.{neither_fault, unless_same}

-- ---- one row after the other

module _ {X : Type 0} (f : X → Option Fault) (g : X → Row) where
  abbrev pub one_row : X → Outcome (List Row)
  one_row x = unless (f x) (g x ∷ [])

  faults_each : (xs : List X) → faults_by fault_in (map one_row xs) ≡ faults_by f xs
  faults_each [] = refl
  faults_each (x ∷ xs) = λ n. join (fault_unless (f x) (g x ∷ []) n) (faults_each xs n)

  rows_each : (xs : List X) → faults_by f xs ≡ None → flat_map rows_in (map one_row xs) ≡ map g xs
  rows_each [] e = refl
  rows_each (x ∷ xs) e = let both = neither_fault (f x) (faults_by f xs) e in λ n. rows_in (unless (both.0 n) (g x ∷ [])) ++ rows_each xs both.1 n

  pub each_is : (xs : List X) → appended (map one_row xs) ≡ unless (faults_by f xs) (map g xs)
  each_is xs =
      ap (λ o. unless o (flat_map rows_in (map one_row xs))) (faults_each xs)
      ∙ unless_same (faults_by f xs) (flat_map rows_in (map one_row xs)) (map g xs) (rows_each xs)

-- ---- items that have the same values at two places

module _ {I J X Y : Type 0} (f : I → X → Outcome Cell) (items : List I) (x : X) (g : J → Y → Outcome Cell) (wanted : List J) (y : Y) (same : map (λ i. f i x) items ≡ map (λ j. g j y) wanted) where
  cells_by : {K Z : Type 0} (h : K → Z → Outcome Cell) (z : Z) (ks : List K) → row_at h ks z ≡ map cell_or_null (map (λ k. h k z) ks)
  cells_by h z [] = refl
  cells_by h z (k ∷ ks) = ap (λ l. cell_or_null (h k z) ∷ l) (cells_by h z ks)

  faults_by_values : {K Z : Type 0} (h : K → Z → Outcome Cell) (z : Z) (ks : List K) → row_fault h ks z ≡ faults_by fault_in (map (λ k. h k z) ks)
  faults_by_values h z [] = refl
  faults_by_values h z (k ∷ ks) = ap (join (fault_in (h k z))) (faults_by_values h z ks)

  pub row_same : row_at f items x ≡ row_at g wanted y
  row_same = cells_by f x items ∙ ap (map cell_or_null) same ∙ sym (cells_by g y wanted)

  pub row_fault_same : row_fault f items x ≡ row_fault g wanted y
  row_fault_same = faults_by_values f x items ∙ ap (faults_by fault_in) same ∙ sym (faults_by_values g y wanted)
