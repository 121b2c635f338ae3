-- Lists by their places, filtered, and in rising order.
use Rattle.std.proofs.Common.{◌≡◌, ℕ, zero, suc, ◌+◌, ◌<◌, ◌≤◌, Bool, true, List, [], ◌∷◌, length, get_or, map, refl, sym, ap, ◌∙◌, arith}
use Rattle.std.specs.List.{AllByRecursion, range_with_len}
use Rattle.std.proofs.lemmas.List.{get_or-map, length-map}
use Rattle.std.proofs.lemmas.List.FromFn.{fill_by_all}
use Rattle.vtl_lists.specs.Sorting.{Rises}
use Rattle.vtl_lists.proofs.Alls.{all_get}

-- ---- what is made at each place
map_from : {X : Type 0} (f g : ℕ → X) (a n : ℕ) → ((i : ℕ) → a ≤ i → i < a + n → f i ≡ g i) → map f (range_with_len a n) ≡ map g (range_with_len a n)
map_from f g a zero same = refl
map_from f g a (suc n) same =
    ap (λ x. x ∷ map f (range_with_len (a + 1) n)) (same a (omega arith) (omega arith))
    ∙ ap (λ l. g a ∷ l) (map_from f g (a + 1) n (λ i h k. same i (omega (arith, h)) (omega (arith, k))))

pub map_same : {X : Type 0} (f g : ℕ → X) (n m : ℕ) → n ≡ m → ((i : ℕ) → i < m → f i ≡ g i) → map f (range_with_len 0 n) ≡ map g (range_with_len 0 m)
map_same f g n m e same = ap (λ k. map f (range_with_len 0 k)) e ∙ map_from f g 0 m (λ i h k. same i (omega (arith, k)))

pub listed : {X Y : Type 0} (f : X → Y) (xs : List X) (d : X) → map (λ i. f (get_or xs i d)) (range_with_len 0 (length xs)) ≡ map f xs
listed f xs d = sym (fill_by_all (λ i. f (get_or xs i d)) (map f xs) (length xs) (f d) (length-map xs f) (λ k l. get_or-map f xs k d (f d) l))

-- ---- what holds of all
pub all_true : {X : Type 0} (xs : List X) → AllByRecursion (λ x. Unit {0}) xs
all_true [] = tt
all_true (x ∷ xs) = (tt, all_true xs)

-- ---- rising order
-- what rises rises by another order that holds where the first does, between such items
pub rises_with : {X : Type 0} (A : X → Type 0) (le other : X → X → Bool) → ((x y : X) → A x → A y → le x y ≡ true → other x y ≡ true) → (xs : List X) → AllByRecursion A xs → Rises le xs → Rises other xs
rises_with A le other f [] all r = tt
rises_with {X = X} A le other f (x ∷ xs) all r = (go xs all.1 r.0, rises_with A le other f xs all.1 r.1)
  where
    go : (ys : List X) → AllByRecursion A ys → AllByRecursion (λ y. le x y ≡ true) ys → AllByRecursion (λ y. other x y ≡ true) ys
    go [] a b = tt
    go (y ∷ ys) a b = (f x y all.0 a.0 b.0, go ys a.1 b.1)

pub rises_get : {X : Type 0} (le : X → X → Bool) (xs : List X) (j k : ℕ) (d : X) → j < k → k < length xs → Rises le xs → le (get_or xs j d) (get_or xs k d) ≡ true
rises_get le [] j k d h l r = absurd (omega (arith, l))
rises_get le (x ∷ xs) zero zero d h l r = absurd (omega (arith, h))
rises_get le (x ∷ xs) zero (suc k) d h l r = all_get (λ y. le x y ≡ true) xs k d (omega (arith, l)) r.0
rises_get le (x ∷ xs) (suc j) zero d h l r = absurd (omega (arith, h))
rises_get le (x ∷ xs) (suc j) (suc k) d h l r = rises_get le xs j k d (omega (arith, h)) (omega (arith, l)) r.1
