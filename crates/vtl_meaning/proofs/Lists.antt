-- What holds of each item of a list.
use Rattle.std.proofs.Common.{List, [], ◌∷◌, map, refl}
use Rattle.std.specs.List.{AllByRecursion}

pub weaker : {X : Type 0} (P Q : X → Type 0) (xs : List X) → ((x : X) → P x → Q x) → AllByRecursion P xs → AllByRecursion Q xs
weaker P Q [] f h = tt
weaker P Q (x ∷ xs) f h = (f x h.0, weaker P Q xs f h.1)

pub every : {X : Type 0} (P : X → Type 0) (xs : List X) → ((x : X) → P x) → AllByRecursion P xs
every P [] f = tt
every P (x ∷ xs) f = (f x, every P xs f)

-- where two facts of each give a third
pub joined : {X : Type 0} (P Q R : X → Type 0) (xs : List X) → ((x : X) → P x → Q x → R x) → AllByRecursion P xs → AllByRecursion Q xs → AllByRecursion R xs
joined P Q R [] f h k = tt
joined P Q R (x ∷ xs) f h k = (f x h.0 k.0, joined P Q R xs f h.1 k.1)

pub mapped : {X Y : Type 0} (P : Y → Type 0) (f : X → Y) (xs : List X) → AllByRecursion (λ x. P (f x)) xs → AllByRecursion P (map f xs)
mapped P f [] h = tt
mapped P f (x ∷ xs) h = (h.0, mapped P f xs h.1)

pub unmapped : {X Y : Type 0} (P : Y → Type 0) (f : X → Y) (xs : List X) → AllByRecursion P (map f xs) → AllByRecursion (λ x. P (f x)) xs
unmapped P f [] h = tt
unmapped P f (x ∷ xs) h = (h.0, unmapped P f xs h.1)
