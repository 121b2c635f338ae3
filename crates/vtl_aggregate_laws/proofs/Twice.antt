-- The keys of what was grouped once.
use Rattle.std.proofs.Common.{◌≡◌, Bool, true, false, not, cond, List, [], ◌∷◌, map, refl, sym, ap, ◌∙◌}
use Rattle.std.specs.List.{filter}
use Rattle.std.proofs.lemmas.Bool.{not-false}
use Rattle.vtl_lists.proofs.Filters.{filter_swap}
use Rattle.vtl_cell.specs.Row.{Row, same_row}
use Rattle.vtl_cell.proofs.Rows.{same_row-is, same_row-refl}
use Rattle.vtl_tuples.specs.Keys.{each_once}
use Rattle.vtl_tuples.proofs.Lists.{filter-map}

-- a filter that keeps what a narrower one keeps
filter_wider : {X : Type 0} (p q : X → Bool) → ((x : X) → q x ≡ false → p x ≡ false) → (xs : List X) → filter p (filter q xs) ≡ filter p xs
filter_wider p q h [] = refl
filter_wider p q h (x ∷ xs) = go (q x) refl (filter_wider p q h xs)
  where
    go : (b : Bool) → q x ≡ b → filter p (filter q xs) ≡ filter p xs → filter p (cond b (x ∷ filter q xs) (filter q xs)) ≡ cond (p x) (x ∷ filter p xs) (filter p xs)
    go true e ih = ap (λ l. cond (p x) (x ∷ l) l) ih
    go false e ih = ih ∙ sym (ap (λ b. cond b (x ∷ filter p xs) (filter p xs)) (h x e))

-- what passes, each once
once_passing : (p : Row → Bool) (xs : List Row) → filter p (each_once same_row xs) ≡ each_once same_row (filter p xs)
once_passing p [] = refl
once_passing p (x ∷ xs) = go (p x) refl (once_passing p xs)
  where
    others : List Row → List Row
    others l = filter (λ y. not (same_row x y)) l

    go : (b : Bool) → p x ≡ b → filter p (each_once same_row xs) ≡ each_once same_row (filter p xs)
        → cond b (x ∷ filter p (others (each_once same_row xs))) (filter p (others (each_once same_row xs))) ≡ each_once same_row (cond b (x ∷ filter p xs) (filter p xs))
    go true e ih = ap (λ l. x ∷ l) (filter_swap p (λ y. not (same_row x y)) (each_once same_row xs) ∙ ap others ih)
    go false e ih =
        let gone : (y : Row) → not (same_row x y) ≡ false → p y ≡ false = λ y h. ap p (sym (same_row-is x y (not-false (same_row x y) h))) ∙ e in
        filter_wider p (λ y. not (same_row x y)) gone (each_once same_row xs) ∙ ih

-- what is made of items that come once gives the same as what is made of all
pub once_of_once : (f : Row → Row) (xs : List Row) → each_once same_row (map f (each_once same_row xs)) ≡ each_once same_row (map f xs)
once_of_once f [] = refl
once_of_once f (x ∷ xs) =
    let other : Row → Bool = λ y. not (same_row (f x) y) in
    let once = each_once same_row xs in
    let gone : (y : Row) → not (same_row x y) ≡ false → other (f y) ≡ false =
    λ y h. ap (λ z. not (same_row (f x) z)) (ap f (sym (same_row-is x y (not-false (same_row x y) h)))) ∙ ap not (same_row-refl (f x)) in
    ap (λ l. f x ∷ l)
    (once_passing other (map f (filter (λ y. not (same_row x y)) once))
    ∙ ap (each_once same_row)
    (filter-map other f (filter (λ y. not (same_row x y)) once)
    ∙ ap (map f) (filter_wider (λ y. other (f y)) (λ y. not (same_row x y)) gone once)
    ∙ sym (filter-map other f once))
    ∙ sym (once_passing other (map f once))
    ∙ ap (filter other) (once_of_once f xs))
