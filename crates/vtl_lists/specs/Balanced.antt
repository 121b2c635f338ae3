-- Items that are joined two by two, so that what becomes of many is not deep.
use Rattle.std.specs.Prelude.{ℕ, zero, suc, List, [], ◌∷◌, length}

-- neighbours are joined
abbrev pub paired : {A : Type 0} → (A → A → A) → List A → List A
paired f (x ∷ y ∷ rest) = f x y ∷ paired f rest
paired f (x ∷ []) = x ∷ []
paired f [] = []

-- neighbours are joined again and again, so many times
abbrev pub rounds : {A : Type 0} → (A → A → A) → ℕ → List A → List A
rounds f zero xs = xs
rounds f (suc n) xs = rounds f n (paired f xs)

abbrev pub first_or : {A : Type 0} → A → List A → A
first_or d [] = d
first_or d (x ∷ rest) = x

-- all items joined, as often as there are some to be joined; this one where there is none
abbrev pub balanced : {A : Type 0} → (A → A → A) → A → List A → A
balanced f d xs = first_or d (rounds f (length xs) xs)

-- all items joined one behind the other; this one stands behind the last
abbrev pub gathered : {A : Type 0} → (A → A → A) → A → List A → A
gathered f d [] = d
gathered f d (x ∷ xs) = f x (gathered f d xs)
