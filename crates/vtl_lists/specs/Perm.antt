-- Lists that differ in order alone.
use Rattle.std.specs.Prelude.{List, [], ◌∷◌}

pub data Perm {X : Type 0} : List X → List X → Type 0 where
  empty : Perm [] []
  keep : (x : X) {xs ys : List X} → Perm xs ys → Perm (x ∷ xs) (x ∷ ys)
  cross : (x y : X) (xs : List X) → Perm (x ∷ y ∷ xs) (y ∷ x ∷ xs)
  chain : {xs ys zs : List X} → Perm xs ys → Perm ys zs → Perm xs zs
