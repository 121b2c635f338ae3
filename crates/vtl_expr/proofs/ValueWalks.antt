-- A walk that puts one value after the other, and joins their faults.
use Rattle.std.proofs.Common.{◌≡◌, ℕ, ◌+◌, ◌<◌, List, [], ◌∷◌, ◌++◌, length, get_or, map, take, Option, sym, ap, ◌∙◌, append_assoc}
use Rattle.std.proofs.lemmas.List.{map_more}
use Rattle.vtl_decimal.specs.declared.number.Fault.{Fault}
use Rattle.vtl_cell.specs.Outcome.{Outcome, fault_in, faults_by, join}
use Rattle.vtl_cell.specs.declared.cell.Cell.{Cell}
use Rattle.vtl_meaning.specs.Points.{cell_or_null}
use Rattle.vtl_tree.proofs.Faults.{join_assoc, faults_by_more}

-- ---- one more value of a point
module _ {X : Type 0} (f : X → Outcome Cell) (xs : List X) (i : ℕ) (d : X) (h : i < length xs) where
  abbrev cell : X → Cell
  cell y = cell_or_null (f y)

  pub cells_more : (before now then : List Cell) → now ≡ before ++ map cell (take i xs) → then ≡ now ++ cell (get_or xs i d) ∷ [] → then ≡ before ++ map cell (take (i + 1) xs)
  cells_more before now then n a =
      a ∙ ap (λ l. l ++ cell (get_or xs i d) ∷ []) n ∙ append_assoc before (map cell (take i xs)) (cell (get_or xs i d) ∷ [])
      ∙ ap (λ l. before ++ l) (sym (map_more cell xs i d h))

  pub seen_more : (before now then : Option Fault) → now ≡ join before (faults_by (λ y. fault_in (f y)) (take i xs)) → then ≡ join now (fault_in (f (get_or xs i d))) → then ≡ join before (faults_by (λ y. fault_in (f y)) (take (i + 1) xs))
  seen_more before now then n a =
      a ∙ ap (λ s. join s (fault_in (f (get_or xs i d)))) n ∙ join_assoc before (faults_by (λ y. fault_in (f y)) (take i xs)) (fault_in (f (get_or xs i d)))
      ∙ ap (join before) (sym (faults_by_more (λ y. fault_in (f y)) xs i d h))
