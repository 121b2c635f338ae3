-- Items of a list in turn: what each gives depends on what those before it gave, and the first error ends it.
use Rattle.std.specs.Prelude.{◌≡◌, ℕ, List, [], ◌∷◌, ◌++◌, length, Some, Result, Ok, Err, take, slice_get}
use Rattle.vtl_lists.specs.Results.{◌>>=◌}

-- what is done, and behind it what each item gives there
abbrev pub in_turn : {A B E : Type 0} → (List B → A → Result B E) → (done : List B) → List A → Result (List B) E
in_turn step done [] = Ok done
in_turn step done (x ∷ xs) = step done x >>= λ y. in_turn step (done ++ y ∷ []) xs

-- each item gave what stands at its place, behind what stands before that place
abbrev pub GaveEach : {A B E : Type 0} → (List B → A → Result B E) → List A → List B → Type 0
GaveEach {A} {B} step xs ys =
    (length ys ≡ length xs)
    × ((i : ℕ) (x : A) → slice_get xs i ≡ Some x → (y : B) × (slice_get ys i ≡ Some y) × (step (take i ys) x ≡ Ok y))

-- the items before a place gave these, and the one at that place gave the error behind them
abbrev pub FailedAt : {A B E : Type 0} → (List B → A → Result B E) → List A → E → Type 0
FailedAt {A} {B} step xs e = (i : ℕ) × (x : A) × (ys : List B) × (slice_get xs i ≡ Some x) × GaveEach step (take i xs) ys × (step ys x ≡ Err e)
