-- Lists of known lengths, one after another.
use Rattle.std.specs.Prelude.{◌≡◌, ℕ, zero, suc, ◌+◌, List, [], ◌∷◌, ◌++◌, length}

abbrev pub joined : {Y : Type 0} → List (List Y) → List Y
joined [] = []
joined (b ∷ bs) = b ++ joined bs

-- the k-th list has as many items as the sizes say
abbrev pub HaveSizes : {Y : Type 0} → (ℕ → ℕ) → List (List Y) → Type 0
HaveSizes sizes [] = Unit {0}
HaveSizes sizes (b ∷ bs) = (length b ≡ sizes zero) × HaveSizes (λ k. sizes (suc k)) bs

-- where the k-th list starts among all items
abbrev pub start_of : (ℕ → ℕ) → ℕ → ℕ
start_of sizes zero = zero
start_of sizes (suc k) = sizes zero + start_of (λ j. sizes (suc j)) k
