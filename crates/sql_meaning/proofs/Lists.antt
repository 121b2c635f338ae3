-- What holds of each item of a list.
use Rattle.std.proofs.Common.{ℕ, zero, suc, Bool, not, List, [], ◌∷◌, ◌++◌}
use Rattle.std.specs.List.{AllByRecursion}
use Rattle.vtl_lists.proofs.Sorts.{AllByRecursion-filter}
use Rattle.vtl_tuples.specs.Keys.{each_once}

pub under : {X : Type 0} {P Q : X → Type 0} → ((x : X) → P x → Q x) → (xs : List X) → AllByRecursion P xs → AllByRecursion Q xs
under f [] all = tt
under f (x ∷ xs) all = (f x all.0, under f xs all.1)

pub all_parted : {A : Type 0} (P : A → Type 0) (xs ys : List A) → AllByRecursion P (xs ++ ys) → AllByRecursion P xs × AllByRecursion P ys
all_parted P [] ys h = (tt, h)
all_parted P (x ∷ xs) ys h = let rest = all_parted P xs ys h.1 in ((h.0, rest.0), rest.1)

pub all_once : {X : Type 0} (same : X → X → Bool) (P : X → Type 0) (xs : List X) → AllByRecursion P xs → AllByRecursion P (each_once same xs)
all_once same P [] all = tt
all_once same P (x ∷ xs) all = (all.0, AllByRecursion-filter P (λ y. not (same x y)) (each_once same xs) (all_once same P xs all.1))
