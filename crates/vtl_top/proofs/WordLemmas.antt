-- Fewer words than a command has.
use Rattle.std.proofs.Common.{◌≡◌, ℕ, ◌<◌, List, [], ◌∷◌, length, map, None, arith, refl}
use Rattle.vtl_top.specs.Words.{replay_of, run_of, source_of}

pub too_few : {X : Type 0} (f : X → List ℕ) (xs : List X) → length xs < 4 → None ≡ run_of (map f xs)
too_few f [] h = refl
too_few f (a ∷ []) h = refl
too_few f (a ∷ b ∷ []) h = refl
too_few f (a ∷ b ∷ c ∷ []) h = refl
too_few f (a ∷ b ∷ c ∷ d ∷ xs) h = absurd (omega (arith, h))

pub too_few_for_source : {X : Type 0} (f : X → List ℕ) (xs : List X) → length xs < 2 → None ≡ source_of (map f xs)
too_few_for_source f [] h = refl
too_few_for_source f (a ∷ []) h = refl
too_few_for_source f (a ∷ b ∷ xs) h = absurd (omega (arith, h))

pub too_few_for_replay : {X : Type 0} (f : X → List ℕ) (xs : List X) → length xs < 5 → None ≡ replay_of (map f xs)
too_few_for_replay f [] h = refl
too_few_for_replay f (a ∷ []) h = refl
too_few_for_replay f (a ∷ b ∷ []) h = refl
too_few_for_replay f (a ∷ b ∷ c ∷ []) h = refl
too_few_for_replay f (a ∷ b ∷ c ∷ d ∷ []) h = refl
too_few_for_replay f (a ∷ b ∷ c ∷ d ∷ e ∷ xs) h = absurd (omega (arith, h))
