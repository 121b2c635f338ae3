-- Steps of a loop that collects the value of each item.
use Rattle.std.proofs.Common.{◌≡◌, ℕ, ◌+◌, ◌<◌, ◌≤◌, List, [], ◌∷◌, ◌++◌, Option, Some, None, get_or, drop, length, refl, sym, ap, ◌∙◌, append_assoc}
use Rattle.std.proofs.lemmas.List.{append-nil, drop_more, drop_all}
use Rattle.vtl_lists.specs.Each.{cons_if, each_some, onto}

pub onto_nothing : {X : Type 0} (m : Option (List X)) → onto [] m ≡ m
onto_nothing None = refl
onto_nothing (Some xs) = refl

pub onto_more : {X : Type 0} (front : List X) (y : X) (m : Option (List X)) → onto front (cons_if (Some y) m) ≡ onto (front ++ y ∷ []) m
onto_more front y None = refl
onto_more front y (Some xs) = ap Some (sym (append_assoc front (y ∷ []) xs))

-- one more item, which has a value
pub each_takes : {X Y : Type 0} (f : X → Option Y) (x : X) (xs : List X) (y : Y) (front : List Y) → f x ≡ Some y → onto front (each_some f (x ∷ xs)) ≡ onto (front ++ y ∷ []) (each_some f xs)
each_takes f x xs y front e = ap (λ o. onto front (cons_if o (each_some f xs))) e ∙ onto_more front y (each_some f xs)

-- an item that has none
pub each_stops : {X Y : Type 0} (f : X → Option Y) (x : X) (xs : List X) (front : List Y) → f x ≡ None → onto front (each_some f (x ∷ xs)) ≡ None
each_stops f x xs front e = ap (λ o. onto front (cons_if o (each_some f xs))) e

-- no item more
pub each_ends : {X Y : Type 0} (f : X → Option Y) (front : List Y) → onto front (each_some f []) ≡ Some front
each_ends f front = ap Some (append-nil front)

-- the same over an index
pub each_takes_at : {X Y : Type 0} (f : X → Option Y) (xs : List X) (i : ℕ) (d : X) (y : Y) (front : List Y) → i < length xs → f (get_or xs i d) ≡ Some y → onto front (each_some f (drop i xs)) ≡ onto (front ++ y ∷ []) (each_some f (drop (i + 1) xs))
each_takes_at f xs i d y front h e = ap (λ l. onto front (each_some f l)) (drop_more xs i d h) ∙ each_takes f (get_or xs i d) (drop (i + 1) xs) y front e

pub each_stops_at : {X Y : Type 0} (f : X → Option Y) (xs : List X) (i : ℕ) (d : X) (front : List Y) → i < length xs → f (get_or xs i d) ≡ None → onto front (each_some f (drop i xs)) ≡ None
each_stops_at f xs i d front h e = ap (λ l. onto front (each_some f l)) (drop_more xs i d h) ∙ each_stops f (get_or xs i d) (drop (i + 1) xs) front e

pub each_ends_at : {X Y : Type 0} (f : X → Option Y) (xs : List X) (i : ℕ) (front : List Y) → length xs ≤ i → onto front (each_some f (drop i xs)) ≡ Some front
each_ends_at f xs i front h = ap (λ l. onto front (each_some f l)) (drop_all i xs h) ∙ each_ends f front
