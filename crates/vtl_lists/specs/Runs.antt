-- Runs: the items at the front of a list that pass a test.
use Rattle.std.specs.Prelude.{Bool, false, List, [], ◌∷◌}

-- the first item passes
abbrev pub begins_with : {X : Type 0} → (X → Bool) → List X → Bool
begins_with test [] = false
begins_with test (x ∷ xs) = test x
