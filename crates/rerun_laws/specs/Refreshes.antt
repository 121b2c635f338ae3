-- What a refresh runs, what it says, and which transformations are fresh behind it.
use Rattle.std.specs.Prelude.{ℕ, not, ◌||◌, List, [], ◌∷◌, map, Result, Ok, Err, if◌then◌else◌}
use Rattle.std.specs.List.{filter}
use Rattle.vtl_decimal.specs.declared.number.Fault.{Fault}
use Rattle.vtl_tree.specs.Structure.{same_name}
use Rattle.vtl_scripts.specs.Meaning.{Outputs}
use Rattle.vtl_check.specs.Checked.{TypedScript}
use Rattle.vtl_check.specs.Transformations.{Transformation}
use Rattle.rerun_laws.specs.Depends.{dependents_of, is_one}

-- the numbers of all transformations, in order
abbrev pub numbers_of : List Transformation → List ℕ
numbers_of ts = map (λ t. t.number) ts

-- those before the transformation with this result
abbrev pub numbers_before : List ℕ → List Transformation → List ℕ
numbers_before name [] = []
numbers_before name (t ∷ ts) = if same_name name t.name then [] else t.number ∷ numbers_before name ts

-- those that are not fresh
abbrev pub stale : List ℕ → List Transformation → List ℕ
stale fresh ts = filter (λ i. not (is_one i fresh)) (numbers_of ts)

-- Which are fresh behind a refresh, by the meaning of the script over the inputs now: all; or, where it is a fault, those before the
-- faulty one and those that were fresh before.
abbrev pub fresh_behind : List Transformation → List ℕ → Result Outputs (Fault × List ℕ) → List ℕ
fresh_behind ts fresh (Ok outputs) = numbers_of ts
fresh_behind ts fresh (Err fault) = filter (λ i. is_one i (numbers_before fault.1 ts) || is_one i fresh) (numbers_of ts)

-- those that are fresh but for these numbers
abbrev pub fresh_but : (numbers fresh : List ℕ) → List ℕ
fresh_but numbers fresh = filter (λ i. not (is_one i numbers)) fresh

-- which stay fresh where a data set is replaced
abbrev pub fresh_without : List ℕ → TypedScript → List ℕ → List ℕ
fresh_without name t fresh = fresh_but (dependents_of name t) fresh

-- what a refresh says of itself: which transformations it ran, or that there was a fault
pub data Refresh : Type 0 where
  ran : List ℕ → Refresh
  faulted : Refresh

abbrev pub refresh_told : List Transformation → List ℕ → Result Outputs (Fault × List ℕ) → Refresh
refresh_told ts fresh (Ok outputs) = ran (stale fresh ts)
refresh_told ts fresh (Err fault) = faulted
