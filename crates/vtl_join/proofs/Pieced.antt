-- Tuples of one length that stand one after the other, and rows by their places.
use Rattle.std.proofs.Common.{◌≡◌, ℕ, zero, suc, ◌+◌, ◌<◌, Bool, true, false, cond, List, [], ◌∷◌, ◌++◌, Option, Some, append_assoc, length, length-append, get_or, map, take, drop, refl, sym, ap, ◌∙◌, arith}
use Rattle.std.specs.Prelude.{slice_get}
use Rattle.std.specs.List.{AllByRecursion, filter, flat_map, range_with_len}
use Rattle.vtl_rows.specs.Gathered.{pieces}
use Rattle.vtl_rows.proofs.Gathered.{pieces-next, pieces-none}

-- ---- tuples
-- a tuple for each item that passes a test
pub pieces_of_tuples : {X : Type 0} (p : X → Bool) (t : X → List ℕ) (w : ℕ) (xs : List X) → 0 < w → AllByRecursion (λ x. length (t x) ≡ w) xs → pieces w (flat_map (λ x. cond (p x) (t x) []) xs) ≡ map t (filter p xs)
pieces_of_tuples p t w [] some wide = pieces-none w [] some
pieces_of_tuples p t w (x ∷ xs) some wide = go (p x) (pieces_of_tuples p t w xs some wide.1)
  where
    go : (b : Bool) → pieces w (flat_map (λ y. cond (p y) (t y) []) xs) ≡ map t (filter p xs) → pieces w (cond b (t x) [] ++ flat_map (λ y. cond (p y) (t y) []) xs) ≡ map t (cond b (x ∷ filter p xs) (filter p xs))
    go true ih = pieces-next w (t x) (flat_map (λ y. cond (p y) (t y) []) xs) some wide.0 ∙ ap (λ l. t x ∷ l) ih
    go false ih = ih

-- ---- the places of a list
-- what is made of places is what is made of the items there
pub by_places : {X Y : Type 0} (p : ℕ → Bool) (f : ℕ → Y) (q : X → Bool) (g : X → Y) (d : X) (at : ℕ) (xs : List X)
    → ((k : ℕ) → k < length xs → p (at + k) ≡ q (get_or xs k d)) → ((k : ℕ) → k < length xs → f (at + k) ≡ g (get_or xs k d))
    → map f (filter p (range_with_len at (length xs))) ≡ map g (filter q xs)
by_places p f q g d at [] same is = refl
by_places p f q g d at (x ∷ xs) same is =
    let here : at + 0 ≡ at = omega arith in
    let next : (k : ℕ) → at + 1 + k ≡ at + suc k = λ k. omega arith in
    go (p at) (q x) (sym (ap p here) ∙ same 0 (omega arith)) (sym (ap f here) ∙ is 0 (omega arith))
    (by_places p f q g d (at + 1) xs (λ k h. ap p (next k) ∙ same (suc k) (omega (arith, h))) (λ k h. ap f (next k) ∙ is (suc k) (omega (arith, h))))
  where
    go : (a b : Bool) → a ≡ b → f at ≡ g x → map f (filter p (range_with_len (at + 1) (length xs))) ≡ map g (filter q xs)
        → map f (cond a (at ∷ filter p (range_with_len (at + 1) (length xs))) (filter p (range_with_len (at + 1) (length xs)))) ≡ map g (cond b (x ∷ filter q xs) (filter q xs))
    go true true e h ih = ap (λ y. y ∷ map f (filter p (range_with_len (at + 1) (length xs)))) h ∙ ap (λ l. g x ∷ l) ih
    go false false e h ih = ih
    go true false e h ih = cc
    go false true e h ih = cc

-- the items themselves
pub items_by_places : {X Y : Type 0} (g : Option X → List Y) (at : ℕ) (before xs : List X) → length before ≡ at → flat_map (λ n. g (slice_get (before ++ xs) n)) (range_with_len at (length xs)) ≡ flat_map (λ x. g (Some x)) xs
items_by_places g at before [] e = refl
items_by_places g at before (x ∷ xs) e =
    let next : length (before ++ x ∷ []) ≡ at + 1 = let l = length-append before (x ∷ []) in omega (arith, l, e) in
    ap (λ o. g o ++ flat_map (λ n. g (slice_get (before ++ x ∷ xs) n)) (range_with_len (at + 1) (length xs))) (ap (slice_get (before ++ x ∷ xs)) (sym e) ∙ behind before x xs)
    ∙ ap (λ l. g (Some x) ++ l) (ap (λ l. flat_map (λ n. g (slice_get l n)) (range_with_len (at + 1) (length xs))) (sym (append_assoc before (x ∷ []) xs)) ∙ items_by_places g (at + 1) (before ++ x ∷ []) xs next)
  where
    behind : {Z : Type 0} (ys : List Z) (z : Z) (zs : List Z) → slice_get (ys ++ z ∷ zs) (length ys) ≡ Some z
    behind [] z zs = refl
    behind (y ∷ ys) z zs = behind ys z zs

-- a list around the item at a place
pub around : {X : Type 0} (xs : List X) (n : ℕ) (x : X) → slice_get xs n ≡ Some x → xs ≡ take n xs ++ x ∷ drop (n + 1) xs
around [] n x e = cc
around (y ∷ xs) zero x e = let same : y ≡ x = cc in ap (λ z. z ∷ xs) same
around (y ∷ xs) (suc n) x e =
    let next : suc (n + 1) ≡ suc n + 1 = omega arith in
    ap (λ l. y ∷ l) (around xs n x e) ∙ ap (λ m. take (suc n) (y ∷ xs) ++ x ∷ drop m (y ∷ xs)) next

-- what holds of all holds at a place
pub all_at : {X : Type 0} (P : X → Type 0) (xs : List X) (n : ℕ) (d : X) → AllByRecursion P xs → n < length xs → P (get_or xs n d)
all_at P [] n d all h = absurd (omega (arith, h))
all_at P (x ∷ xs) zero d all h = all.0
all_at P (x ∷ xs) (suc n) d all h = all_at P xs n d all.1 (omega (arith, h))
