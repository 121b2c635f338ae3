-- Items at some places of each run.
use Rattle.std.specs.Prelude.{ℕ, zero, suc, ◌+◌, ◌<◌, List, [], ◌∷◌, map, length, take, drop, slice_index, slice_index_or}

-- each place is greater than the one before it
abbrev pub AreRising : List ℕ → Type 0
AreRising places = (k : ℕ) → k + 1 < length places → slice_index places k < slice_index places (k + 1)

module _ {X : Type 0} where
  -- the first n runs
  abbrev pub runs : ℕ → ℕ → List X → List (List X)
  runs width zero xs = []
  runs width (suc n) xs = take width xs ∷ runs width n (drop width xs)

  -- the items at some places, with one in the stead of those past the end
  abbrev pub items_at : X → List ℕ → List X → List X
  items_at d places xs = map (λ i. slice_index_or xs i d) places
