-- What a contract sees of a store: its places, and the sizes of its blocks.
use Rattle.std.specs.Prelude.{ℕ, zero, suc, ◌+◌, ◌*◌, List, [], ◌∷◌, Option, refl}
use Rattle.std.specs.Coded.{Coded, code_by, coded×, coded_list, coded_option, coded_ℕ}

-- the places of all blocks, and the sizes of the first block and of each other
pub record Stored (X : Type 0) : Type 0 where
  pub places : List (Option X)
  pub first : ℕ
  pub step : ℕ

-- the first number for an empty list, and else the second
abbrev pub if_none : {Y : Type 0} → List Y → ℕ → ℕ → ℕ
if_none [] a b = a
if_none (y ∷ ys) a b = b

-- how many places the k-th block has
abbrev pub block_size : ℕ → ℕ → ℕ → ℕ
block_size first step zero = first
block_size first step (suc k) = step

-- where it starts
abbrev pub block_start : ℕ → ℕ → ℕ → ℕ
block_start first step zero = zero
block_start first step (suc k) = first + k * step

-- the number, among all places, of a place of the k-th block
abbrev pub spot : ℕ → ℕ → ℕ → ℕ → ℕ
spot first step k place = block_start first step k + place

module _ {X : Type 0} where
  abbrev pub stored : List (Option X) → ℕ → ℕ → Stored X
  stored cs first step = record { places = cs; first = first; step = step }

  abbrev pub stored_code : Coded X → Coded (Stored X)
  stored_code c =
      code_by (List (Option X) × (ℕ × ℕ)) (coded× (coded_list (coded_option c)) (coded× coded_ℕ coded_ℕ)) (λ s. (s.places, (s.first, s.step))) (λ t. stored t.0 t.1.0 t.1.1) (λ _. refl)

  -- how many places the next block has
  abbrev pub next_size : Stored X → ℕ
  next_size s = if_none s.places s.first s.step
