-- Tests on lists of lists, and what holds of all their items.
use Rattle.std.proofs.Common.{◌≡◌, ◌<◌, ◌+◌, ℕ, zero, suc, Bool, true, false, cond, ◌&&◌, ◌||◌, List, [], ◌∷◌, ◌++◌, map, get_or, refl, sym, ap, ◌∙◌, arith, nat_eq, ne_eqb, true≢false}
use Rattle.std.specs.List.{AllByRecursion, filter, flat_map, list_any, range_with_len}
use Rattle.std.proofs.lemmas.List.FromFn.{get_or-range_with_len, length-range_with_len}
use Rattle.std.proofs.lemmas.List.Folds.{list_any-append, list_any_at}
use Rattle.std.proofs.lemmas.Bool.{or_left, or_right}
use Rattle.vtl_lists.specs.Apart.{all_apart}
use Rattle.vtl_lists.proofs.Aparts.{apart_more, apart_parts}
use Rattle.vtl_lists.proofs.Alls.{all_append, all_each, all_more}
use Rattle.vtl_lists.proofs.Sorts.{AllByRecursion-map}

-- ---- some item passes
module _ {X Y : Type 0} (p : Y → Bool) where
  pub any_map : (f : X → Y) (xs : List X) → list_any p (map f xs) ≡ list_any (λ x. p (f x)) xs
  any_map f [] = refl
  any_map f (x ∷ xs) = ap (λ b. p (f x) || b) (any_map f xs)

  pub any_flat_map : (F : X → List Y) (xs : List X) → list_any p (flat_map F xs) ≡ list_any (λ x. list_any p (F x)) xs
  any_flat_map F [] = refl
  any_flat_map F (x ∷ xs) = list_any-append p (F x) (flat_map F xs) ∙ ap (λ b. list_any p (F x) || b) (any_flat_map F xs)

pub any_filter : {X : Type 0} (p q : X → Bool) (xs : List X) → list_any p (filter q xs) ≡ list_any (λ x. q x && p x) xs
any_filter p q [] = refl
any_filter p q (x ∷ xs) = go (q x) (any_filter p q xs)
  where
    go : (b : Bool) → list_any p (filter q xs) ≡ list_any (λ y. q y && p y) xs → list_any p (cond b (x ∷ filter q xs) (filter q xs)) ≡ ((b && p x) || list_any (λ y. q y && p y) xs)
    go true ih = ap (λ c. p x || c) ih
    go false ih = ih

pub any_none : {X : Type 0} (xs : List X) → list_any (λ x. false) xs ≡ false
any_none [] = refl
any_none (x ∷ xs) = any_none xs

-- what follows from each item that passes, among those of which something holds
pub any_gives : {X : Type 0} (P : X → Type 0) (p : X → Bool) (b : Bool) (xs : List X) → AllByRecursion P xs → ((x : X) → P x → p x ≡ true → b ≡ true) → list_any p xs ≡ true → b ≡ true
any_gives P p b [] all f e = absurd (true≢false (sym e))
any_gives P p b (x ∷ xs) all f e = go (p x) refl (any_gives P p b xs all.1 f) e
  where
    go : (t : Bool) → p x ≡ t → (list_any p xs ≡ true → b ≡ true) → (t || list_any p xs) ≡ true → b ≡ true
    go true h ih e = f x all.0 h
    go false h ih e = ih e

-- a test that passes where another one does
pub any_more : {X : Type 0} (p q : X → Bool) → ((x : X) → p x ≡ true → q x ≡ true) → (xs : List X) → list_any p xs ≡ true → list_any q xs ≡ true
any_more p q f [] e = e
any_more p q f (x ∷ xs) e = go (p x) refl (any_more p q f xs) e
  where
    go : (t : Bool) → p x ≡ t → (list_any p xs ≡ true → list_any q xs ≡ true) → (t || list_any p xs) ≡ true → (q x || list_any q xs) ≡ true
    go true h ih e = or_left (q x) (list_any q xs) (f x h)
    go false h ih e = or_right (q x) (list_any q xs) (ih e)

-- ---- what holds of all items
pub all_flat_map : {X Y : Type 0} (F : X → List Y) (P : Y → Type 0) (xs : List X) → AllByRecursion (λ x. AllByRecursion P (F x)) xs → AllByRecursion P (flat_map F xs)
all_flat_map F P [] all = tt
all_flat_map F P (x ∷ xs) all = all_append P (F x) (flat_map F xs) all.0 (all_flat_map F P xs all.1)

-- of the items that are kept
pub all_kept : {X : Type 0} (P Q : X → Type 0) (p : X → Bool) → ((x : X) → P x → p x ≡ true → Q x) → (xs : List X) → AllByRecursion P xs → AllByRecursion Q (filter p xs)
all_kept P Q p f [] all = tt
all_kept P Q p f (x ∷ xs) all = go (p x) refl (all_kept P Q p f xs all.1)
  where
    go : (b : Bool) → p x ≡ b → AllByRecursion Q (filter p xs) → AllByRecursion Q (cond b (x ∷ filter p xs) (filter p xs))
    go true e ih = (f x all.0 e, ih)
    go false e ih = ih

-- ---- no two items are the same
module _ {X : Type 0} (same : X → X → Bool) where
  apart_append : (xs ys : List X) → all_apart same xs ≡ true → all_apart same ys ≡ true → AllByRecursion (λ x. AllByRecursion (λ y. same x y ≡ false) ys) xs → all_apart same (xs ++ ys) ≡ true
  apart_append [] ys h i cross = i
  apart_append (x ∷ xs) ys h i cross =
      let own = apart_parts same x xs h in
      apart_more same x (xs ++ ys) (all_append (λ y. same x y ≡ false) xs ys own.0 cross.0) (apart_append xs ys own.1 i cross.1)

module _ {X Y : Type 0} (alike : X → X → Bool) (same : Y → Y → Bool) where
  -- of lists, one for each of several items
  pub apart_flat_map : (F : X → List Y) → ((x : X) → all_apart same (F x) ≡ true) → ((x z : X) → alike x z ≡ false → AllByRecursion (λ y. AllByRecursion (λ w. same y w ≡ false) (F z)) (F x))
      → (xs : List X) → all_apart alike xs ≡ true → all_apart same (flat_map F xs) ≡ true
  apart_flat_map F own cross [] e = refl
  apart_flat_map F own cross (x ∷ xs) e =
      let parts = apart_parts alike x xs e in
      apart_append same (F x) (flat_map F xs) (own x) (apart_flat_map F own cross xs parts.1) (others xs parts.0)
    where
      both : (ys : List Y) (us vs : List Y) → AllByRecursion (λ y. AllByRecursion (λ w. same y w ≡ false) us) ys → AllByRecursion (λ y. AllByRecursion (λ w. same y w ≡ false) vs) ys
          → AllByRecursion (λ y. AllByRecursion (λ w. same y w ≡ false) (us ++ vs)) ys
      both [] us vs h i = tt
      both (y ∷ ys) us vs h i = (all_append (λ w. same y w ≡ false) us vs h.0 i.0, both ys us vs h.1 i.1)

      others : (zs : List X) → AllByRecursion (λ z. alike x z ≡ false) zs → AllByRecursion (λ y. AllByRecursion (λ w. same y w ≡ false) (flat_map F zs)) (F x)
      others [] all = all_each (λ y. Unit {0}) (λ y. tt) (F x)
      others (z ∷ zs) all = both (F x) (F z) (flat_map F zs) (cross x z all.0) (others zs all.1)

  pub apart_map : (f : X → Y) → ((x z : X) → alike x z ≡ false → same (f x) (f z) ≡ false) → (xs : List X) → all_apart alike xs ≡ true → all_apart same (map f xs) ≡ true
  apart_map f cross [] e = refl
  apart_map f cross (x ∷ xs) e =
      let parts = apart_parts alike x xs e in
      apart_more same (f x) (map f xs) (AllByRecursion-map f (λ y. same (f x) y ≡ false) xs (all_more (λ z. alike x z ≡ false) (λ z. same (f x) (f z) ≡ false) (cross x) xs parts.0)) (apart_map f cross xs parts.1)

-- ---- numbers from one on
numbers_behind : (a b n : ℕ) → a < b → AllByRecursion (λ i. nat_eq a i ≡ false) (range_with_len b n)
numbers_behind a b zero h = tt
numbers_behind a b (suc n) h = (ne_eqb a b (λ e. absurd (omega (arith, h, e))), numbers_behind a (b + 1) n (omega (arith, h)))

pub numbers_apart : (a n : ℕ) → all_apart nat_eq (range_with_len a n) ≡ true
numbers_apart a zero = refl
numbers_apart a (suc n) = apart_more nat_eq a (range_with_len (a + 1) n) (numbers_behind a (a + 1) n (omega arith)) (numbers_apart (a + 1) n)

-- a number below the bound that is kept and passes
pub any_number : (t p : ℕ → Bool) (n i : ℕ) → i < n → p i ≡ true → t i ≡ true → list_any t (filter p (range_with_len 0 n)) ≡ true
any_number t p n i h e g =
    let l = length-range_with_len 0 n in
    let at : get_or (range_with_len 0 n) i 0 ≡ i = let r = get_or-range_with_len 0 n i 0 h in omega (arith, r) in
    any_filter t p (range_with_len 0 n)
    ∙ list_any_at (λ j. p j && t j) (range_with_len 0 n) i 0 (omega (arith, l, h)) (ap (λ j. p j && t j) at ∙ ap (λ b. b && t i) e ∙ g)
