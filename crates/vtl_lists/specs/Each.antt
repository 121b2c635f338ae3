-- Lists in which each item has a value.
use Rattle.std.specs.Prelude.{List, [], ◌∷◌, ◌++◌, Option, Some, None}

abbrev pub cons_if : {X : Type 0} → Option X → Option (List X) → Option (List X)
cons_if None xs = None
cons_if (Some x) None = None
cons_if (Some x) (Some xs) = Some (x ∷ xs)

-- the values of all items, or none where one of them has none
abbrev pub each_some : {X Y : Type 0} → (X → Option Y) → List X → Option (List Y)
each_some f [] = Some []
each_some f (x ∷ xs) = cons_if (f x) (each_some f xs)

-- a list with these items before it
abbrev pub onto : {X : Type 0} → List X → Option (List X) → Option (List X)
onto front None = None
onto front (Some xs) = Some (front ++ xs)
