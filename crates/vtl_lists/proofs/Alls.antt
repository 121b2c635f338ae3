-- What holds of each item of a list.
use Rattle.std.proofs.Common.{[], Bool, List, Some, ap, arith, cond, drop, false, get_or, length, refl, subst, suc, sym, take, true, zero, ℕ, ◌&&◌, ◌++◌, ◌+◌, ◌<◌, ◌∙◌, ◌∷◌, ◌≡◌, ◌≤◌}
use Rattle.std.proofs.lemmas.Bool.{and_parts, false≢true}
use Rattle.std.specs.List.{AllByRecursion, flat_map, list_all, range_with_len}
use Rattle.std.specs.Prelude.{filter, slice_get}

-- what passes a test of all passes each time
pub all_from_test : {X : Type 0} (p : X → Bool) (xs : List X) → list_all p xs ≡ true → AllByRecursion (λ x. p x ≡ true) xs
all_from_test p [] e = tt
all_from_test p (x ∷ xs) e = let h = and_parts (p x) (list_all p xs) e in (h.0, all_from_test p xs h.1)

pub test_from_all : {X : Type 0} (p : X → Bool) (xs : List X) → AllByRecursion (λ x. p x ≡ true) xs → list_all p xs ≡ true
test_from_all p [] all = refl
test_from_all p (x ∷ xs) all = ap (λ b. b && list_all p xs) all.0 ∙ test_from_all p xs all.1

-- of one list and then of another
pub all_append : {X : Type 0} (P : X → Type 0) (xs ys : List X) → AllByRecursion P xs → AllByRecursion P ys → AllByRecursion P (xs ++ ys)
all_append P [] ys h i = i
all_append P (x ∷ xs) ys h i = (h.0, all_append P xs ys h.1 i)

-- what holds of each item has what it implies hold of each
pub all_more : {X : Type 0} (P Q : X → Type 0) → ((x : X) → P x → Q x) → (xs : List X) → AllByRecursion P xs → AllByRecursion Q xs
all_more P Q f [] all = tt
all_more P Q f (x ∷ xs) all = (f x all.0, all_more P Q f xs all.1)

-- two properties together
pub all_with : {X : Type 0} (P Q : X → Type 0) (xs : List X) → AllByRecursion P xs → AllByRecursion Q xs → AllByRecursion (λ x. P x × Q x) xs
all_with P Q [] h i = tt
all_with P Q (x ∷ xs) h i = ((h.0, i.0), all_with P Q xs h.1 i.1)

pub all_front : {X : Type 0} (P : X → Type 0) (xs ys : List X) → AllByRecursion P (xs ++ ys) → AllByRecursion P xs
all_front P [] ys all = tt
all_front P (x ∷ xs) ys all = (all.0, all_front P xs ys all.1)

-- of the item at a place
pub all_get : {X : Type 0} (P : X → Type 0) (xs : List X) (k : ℕ) (d : X) → k < length xs → AllByRecursion P xs → P (get_or xs k d)
all_get P [] k d h all = absurd (omega (arith, h))
all_get P (x ∷ xs) zero d h all = all.0
all_get P (x ∷ xs) (suc k) d h all = all_get P xs k d (omega (arith, h)) all.1

-- what a filter keeps passes
pub all_filtered : {X : Type 0} (p : X → Bool) (xs : List X) → AllByRecursion (λ x. p x ≡ true) (filter p xs)
all_filtered p [] = tt
all_filtered p (x ∷ xs) = go (p x) refl (all_filtered p xs)
  where
    go : (b : Bool) → p x ≡ b → AllByRecursion (λ y. p y ≡ true) (filter p xs) → AllByRecursion (λ y. p y ≡ true) (cond b (x ∷ filter p xs) (filter p xs))
    go true e ih = (e, ih)
    go false e ih = ih

-- what two properties imply together
pub all_both : {X : Type 0} (P Q R : X → Type 0) → ((x : X) → P x → Q x → R x) → (xs : List X) → AllByRecursion P xs → AllByRecursion Q xs → AllByRecursion R xs
all_both P Q R f [] h i = tt
all_both P Q R f (x ∷ xs) h i = (f x h.0 i.0, all_both P Q R f xs h.1 i.1)

pub all_back : {X : Type 0} (P : X → Type 0) (xs ys : List X) → AllByRecursion P (xs ++ ys) → AllByRecursion P ys
all_back P [] ys h = h
all_back P (x ∷ xs) ys h = all_back P xs ys h.1

-- what a filter keeps has what each has, and passes
pub all_kept : {X : Type 0} (P : X → Type 0) (p : X → Bool) (xs : List X) → AllByRecursion P xs → AllByRecursion (λ x. P x × (p x ≡ true)) (filter p xs)
all_kept P p [] h = tt
all_kept P p (x ∷ xs) h = go (p x) refl (all_kept P p xs h.1)
  where
    go : (b : Bool) → p x ≡ b → AllByRecursion (λ x. P x × (p x ≡ true)) (filter p xs) → AllByRecursion (λ x. P x × (p x ≡ true)) (cond b (x ∷ filter p xs) (filter p xs))
    go true e k = ((h.0, e), k)
    go false e k = k

-- what holds of each that a filter keeps holds of each that passes
pub all_from_filtered : {X : Type 0} (P : X → Type 0) (p : X → Bool) (xs : List X) → AllByRecursion P (filter p xs) → AllByRecursion (λ x. p x ≡ true → P x) xs
all_from_filtered P p [] h = tt
all_from_filtered P p (x ∷ xs) h = go (p x) refl h (all_from_filtered P p xs)
  where
    go : (b : Bool) → p x ≡ b → AllByRecursion P (cond b (x ∷ filter p xs) (filter p xs)) → (AllByRecursion P (filter p xs) → AllByRecursion (λ x. p x ≡ true → P x) xs) → AllByRecursion (λ x. p x ≡ true → P x) (x ∷ xs)
    go true e k ih = ((λ _. k.0), ih k.1)
    go false e k ih = ((λ yes. absurd (false≢true (sym e ∙ yes))), ih k)

pub all_drop : {X : Type 0} (P : X → Type 0) (n : ℕ) (xs : List X) → AllByRecursion P xs → AllByRecursion P (drop n xs)
all_drop P zero xs all = all
all_drop P (suc n) [] all = tt
all_drop P (suc n) (x ∷ xs) all = all_drop P n xs all.1

pub all_take : {X : Type 0} (P : X → Type 0) (n : ℕ) (xs : List X) → AllByRecursion P xs → AllByRecursion P (take n xs)
all_take P zero xs all = tt
all_take P (suc n) [] all = tt
all_take P (suc n) (x ∷ xs) all = (all.0, all_take P n xs all.1)

-- what holds of all items
pub all_each : {X : Type 0} (P : X → Type 0) → ((x : X) → P x) → (xs : List X) → AllByRecursion P xs
all_each P f [] = tt
all_each P f (x ∷ xs) = (f x, all_each P f xs)

-- of each item of the lists that are drawn
pub all_flat_map : {X Y : Type 0} (P : Y → Type 0) (g : X → List Y) (xs : List X) → AllByRecursion (λ x. AllByRecursion P (g x)) xs → AllByRecursion P (flat_map g xs)
all_flat_map P g [] all = tt
all_flat_map P g (x ∷ xs) all = all_append P (g x) (flat_map g xs) all.0 (all_flat_map P g xs all.1)

-- one item more
pub all_push : {X : Type 0} (P : X → Type 0) (xs : List X) (x : X) → AllByRecursion P xs → P x → AllByRecursion P (xs ++ x ∷ [])
all_push P [] x all h = (h, tt)
all_push P (y ∷ ys) x all h = (all.0, all_push P ys x all.1 h)

-- numbers in a range are below its end
pub numbers_within : (a n m : ℕ) → a + n ≤ m → AllByRecursion (λ i. i < m) (range_with_len a n)
numbers_within a zero m h = tt
numbers_within a (suc n) m h = (omega (arith, h), numbers_within (a + 1) n m (omega (arith, h)))

-- of the item that stands at a place
pub all_at : {X : Type 0} (P : X → Type 0) (xs : List X) (i : ℕ) (x : X) → AllByRecursion P xs → slice_get xs i ≡ Some x → P x
all_at P [] i x all e = cc
all_at P (y ∷ xs) zero x all e = let s : y ≡ x = cc in subst P s all.0
all_at P (y ∷ xs) (suc i) x all e = all_at P xs i x all.1 e
