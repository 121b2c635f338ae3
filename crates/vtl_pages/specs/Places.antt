-- Places, each empty or holding a value.
use Rattle.std.specs.Prelude.{◌≡◌, ℕ, suc, ◌+◌, ◌<◌, ◌≤◌, slice_set, List, [], ◌∷◌, map, length, take, drop, get_or, Option, Some, None}

module _ {X : Type 0} where
  -- the values that the places hold, in their order
  abbrev pub values : List (Option X) → List X
  values [] = []
  values (Some x ∷ cs) = x ∷ values cs
  values (None ∷ cs) = values cs

  -- the place of this number holds a value
  abbrev pub IsFilled : List (Option X) → ℕ → Type 0
  IsFilled cs i = (x : X) × (get_or cs i None ≡ Some x)

  -- the n places from the i-th on hold values
  abbrev pub IsRun : List (Option X) → ℕ → ℕ → Type 0
  IsRun cs i n = (i + n ≤ length cs) × ((xs : List X) × (take n (drop i cs) ≡ map Some xs))

  -- the first n places hold values, and no other does
  pub record IsFilledTo (cs : List (Option X)) (n : ℕ) : Type 0 where
    pub full : (i : ℕ) → i < n → IsFilled cs i
    pub free : (i : ℕ) → n ≤ i → get_or cs i None ≡ None

  -- the values in the places from the i-th on
  abbrev pub put_all : List (Option X) → ℕ → List X → List (Option X)
  put_all cs i [] = cs
  put_all cs i (x ∷ xs) = slice_set (put_all cs (suc i) xs) i (Some x)

  -- none of the n places from the i-th on holds a value
  abbrev pub IsFree : List (Option X) → ℕ → ℕ → Type 0
  IsFree cs i n = (j : ℕ) → i ≤ j → j < i + n → get_or cs j None ≡ None
