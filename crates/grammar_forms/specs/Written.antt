-- Lists as they are written.
use Rattle.std.specs.Prelude.{List, [], ◌∷◌, ◌++◌}

-- each behind a mark
abbrev pub behind : {T A : Type 0} → List T → (A → List T) → List A → List T
behind mark f [] = []
behind mark f (x ∷ xs) = mark ++ (f x ++ behind mark f xs)

-- with a mark between any two
abbrev pub between : {T A : Type 0} → List T → (A → List T) → List A → List T
between mark f [] = []
between mark f (x ∷ xs) = f x ++ behind mark f xs

-- one after the other
abbrev pub run : {T A : Type 0} → (A → List T) → List A → List T
run f [] = []
run f (x ∷ xs) = f x ++ run f xs

-- each has the property
abbrev pub Each : {A : Type 0} → (A → Type 0) → List A → Type 0
Each P [] = Unit {0}
Each P (x ∷ xs) = P x × Each P xs
