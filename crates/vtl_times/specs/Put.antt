-- Values that are put at places of a list.
use Rattle.std.specs.Prelude.{ℕ, List, [], ◌∷◌, slice_set}

-- at each of these places its value
abbrev pub put_each : {X : Type 0} → (ℕ → X) → List ℕ → List X → List X
put_each f [] values = values
put_each f (k ∷ ks) values = put_each f ks (slice_set values k (f k))
