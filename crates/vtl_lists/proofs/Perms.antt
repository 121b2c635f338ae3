-- Lemmas on Perm.
use Rattle.std.proofs.Common.{◌≡◌, ℕ, zero, suc, ◌<◌, List, [], ◌∷◌, ◌++◌, Bool, true, false, ◌&&◌, cond, map, length, get_or, set, refl, sym, ap, ◌∙◌, subst, arith, append_assoc}
use Rattle.std.specs.List.{AllByRecursion, filter, flat_map, list_all, swap}
use Rattle.std.specs.List.Sorted.{IsPermutation}
use Rattle.std.proofs.lemmas.List.{append-nil}
use Rattle.std.proofs.lemmas.List.Sorted.{IsPermutation-refl, IsPermutation-trans, IsPermutation-cons, IsPermutation-keeps, IsPermutation-swap}
use Rattle.vtl_lists.specs.Perm.{Perm, empty, keep, cross, chain}

pub Perm-refl : {X : Type 0} (xs : List X) → Perm xs xs
Perm-refl [] = empty
Perm-refl (x ∷ xs) = keep x (Perm-refl xs)

pub Perm-same : {X : Type 0} (xs ys : List X) → xs ≡ ys → Perm xs ys
Perm-same xs ys e = subst (λ zs. Perm xs zs) e (Perm-refl xs)

pub Perm-sym : {X : Type 0} {xs ys : List X} → Perm xs ys → Perm ys xs
Perm-sym empty = empty
Perm-sym (keep x p) = keep x (Perm-sym p)
Perm-sym (cross x y xs) = cross y x xs
Perm-sym (chain p q) = chain (Perm-sym q) (Perm-sym p)

pub Perm-map : {X Y : Type 0} (f : X → Y) {xs ys : List X} → Perm xs ys → Perm (map f xs) (map f ys)
Perm-map f empty = empty
Perm-map f (keep x p) = keep (f x) (Perm-map f p)
Perm-map f (cross x y xs) = cross (f x) (f y) (map f xs)
Perm-map f (chain p q) = chain (Perm-map f p) (Perm-map f q)

-- the ends of both lists are kept
pub Perm-append_front : {X : Type 0} (zs : List X) {xs ys : List X} → Perm xs ys → Perm (zs ++ xs) (zs ++ ys)
Perm-append_front [] p = p
Perm-append_front (z ∷ zs) p = keep z (Perm-append_front zs p)

pub Perm-append_back : {X : Type 0} (zs : List X) {xs ys : List X} → Perm xs ys → Perm (xs ++ zs) (ys ++ zs)
Perm-append_back zs empty = Perm-refl zs
Perm-append_back zs (keep x p) = keep x (Perm-append_back zs p)
Perm-append_back zs (cross x y xs) = cross x y (xs ++ zs)
Perm-append_back zs (chain p q) = chain (Perm-append_back zs p) (Perm-append_back zs q)

pub Perm-append : {X : Type 0} {xs ys us vs : List X} → Perm xs ys → Perm us vs → Perm (xs ++ us) (ys ++ vs)
Perm-append {xs = xs} {ys = ys} {us = us} {vs = vs} p q = chain (Perm-append_back us p) (Perm-append_front ys q)

-- one element goes past a list
pub Perm-middle : {X : Type 0} (xs : List X) (x : X) (ys : List X) → Perm (xs ++ x ∷ ys) (x ∷ (xs ++ ys))
Perm-middle [] x ys = Perm-refl (x ∷ ys)
Perm-middle (z ∷ xs) x ys = chain (keep z (Perm-middle xs x ys)) (cross z x (xs ++ ys))

pub Perm-append_comm : {X : Type 0} (xs ys : List X) → Perm (xs ++ ys) (ys ++ xs)
Perm-append_comm [] ys = Perm-same ys (ys ++ []) (sym (append-nil ys))
Perm-append_comm (x ∷ xs) ys = chain (keep x (Perm-append_comm xs ys)) (Perm-sym (Perm-middle ys x xs))

Perm-keep_if : {X : Type 0} (b : Bool) (x : X) {xs ys : List X} → Perm xs ys → Perm (cond b (x ∷ xs) xs) (cond b (x ∷ ys) ys)
Perm-keep_if true x p = keep x p
Perm-keep_if false x p = p

Perm-cross_if : {X : Type 0} (b c : Bool) (x y : X) (xs : List X) → Perm (cond b (x ∷ cond c (y ∷ xs) xs) (cond c (y ∷ xs) xs)) (cond c (y ∷ cond b (x ∷ xs) xs) (cond b (x ∷ xs) xs))
Perm-cross_if true true x y xs = cross x y xs
Perm-cross_if true false x y xs = Perm-refl (x ∷ xs)
Perm-cross_if false true x y xs = Perm-refl (y ∷ xs)
Perm-cross_if false false x y xs = Perm-refl xs

pub Perm-filter : {X : Type 0} (p : X → Bool) {xs ys : List X} → Perm xs ys → Perm (filter p xs) (filter p ys)
Perm-filter p empty = empty
Perm-filter p (keep x q) = Perm-keep_if (p x) x (Perm-filter p q)
Perm-filter p (cross x y xs) = Perm-cross_if (p x) (p y) x y (filter p xs)
Perm-filter p (chain q r) = chain (Perm-filter p q) (Perm-filter p r)

pub Perm-flat_map : {X Y : Type 0} (f : X → List Y) {xs ys : List X} → Perm xs ys → Perm (flat_map f xs) (flat_map f ys)
Perm-flat_map f empty = empty
Perm-flat_map f (keep x q) = Perm-append_front (f x) (Perm-flat_map f q)
Perm-flat_map f (cross x y xs) =
    chain (Perm-same (f x ++ (f y ++ flat_map f xs)) ((f x ++ f y) ++ flat_map f xs) (sym (append_assoc (f x) (f y) (flat_map f xs))))
    (chain (Perm-append_back (flat_map f xs) (Perm-append_comm (f x) (f y)))
    (Perm-same ((f y ++ f x) ++ flat_map f xs) (f y ++ (f x ++ flat_map f xs)) (append_assoc (f y) (f x) (flat_map f xs))))
Perm-flat_map f (chain q r) = chain (Perm-flat_map f q) (Perm-flat_map f r)

-- each piece in another order
pub Perm-flat_map_each : {X Y : Type 0} (f g : X → List Y) → ((x : X) → Perm (f x) (g x)) → (xs : List X) → Perm (flat_map f xs) (flat_map g xs)
Perm-flat_map_each f g each [] = empty
Perm-flat_map_each f g each (x ∷ xs) = Perm-append (each x) (Perm-flat_map_each f g each xs)

-- ---- what does not depend on the order
pub length-Perm : {X : Type 0} {xs ys : List X} → Perm xs ys → length xs ≡ length ys
length-Perm empty = refl
length-Perm (keep x p) = ap suc (length-Perm p)
length-Perm (cross x y xs) = refl
length-Perm (chain p q) = length-Perm p ∙ length-Perm q

and_swap : (a b c : Bool) → (a && (b && c)) ≡ (b && (a && c))
and_swap true b c = refl
and_swap false true c = refl
and_swap false false c = refl

pub list_all-Perm : {X : Type 0} (p : X → Bool) {xs ys : List X} → Perm xs ys → list_all p xs ≡ list_all p ys
list_all-Perm p empty = refl
list_all-Perm p (keep x q) = ap (λ b. p x && b) (list_all-Perm p q)
list_all-Perm p (cross x y xs) = and_swap (p x) (p y) (list_all p xs)
list_all-Perm p (chain q r) = list_all-Perm p q ∙ list_all-Perm p r

pub AllByRecursion-Perm : {X : Type 0} (P : X → Type 0) {xs ys : List X} → Perm xs ys → AllByRecursion P xs → AllByRecursion P ys
AllByRecursion-Perm P empty all = tt
AllByRecursion-Perm P (keep x p) all = (all.0, AllByRecursion-Perm P p all.1)
AllByRecursion-Perm P (cross x y xs) all = (all.1.0, (all.0, all.1.1))
AllByRecursion-Perm P (chain p q) all = AllByRecursion-Perm P q (AllByRecursion-Perm P p all)

-- std's relation
pub IsPermutation-from_Perm : {X : Type 0} {xs ys : List X} → Perm xs ys → IsPermutation xs ys
IsPermutation-from_Perm empty = IsPermutation-refl []
IsPermutation-from_Perm (keep x {xs} {ys} p) = IsPermutation-cons x xs ys (IsPermutation-from_Perm p)
IsPermutation-from_Perm (cross x y xs) = IsPermutation-swap (x ∷ y ∷ xs) (y ∷ x ∷ xs) 0 1 (omega arith) (omega arith) refl
IsPermutation-from_Perm (chain {xs} {ys} {zs} p q) = IsPermutation-trans xs ys zs (IsPermutation-from_Perm p) (IsPermutation-from_Perm q)

Perm-set : {X : Type 0} (x d : X) (ys : List X) (j : ℕ) → j < length ys → Perm (x ∷ ys) (get_or ys j d ∷ set ys j x)
Perm-set x d [] j h = absurd (omega arith)
Perm-set x d (y ∷ ys) zero h = cross x y ys
Perm-set x d (y ∷ ys) (suc j) h =
    let lt : j < length ys = omega arith in
    chain (cross x y ys) (chain (keep y (Perm-set x d ys j lt)) (cross y (get_or ys j d) (set ys j x)))

abbrev exchanged : {X : Type 0} → List X → ℕ → ℕ → X → List X
exchanged xs i j d = set (set xs i (get_or xs j d)) j (get_or xs i d)

Perm-exchanged : {X : Type 0} (d : X) (xs : List X) (i j : ℕ) → i < length xs → j < length xs → Perm xs (exchanged xs i j d)
Perm-exchanged d [] i j h k = absurd (omega arith)
Perm-exchanged d (x ∷ xs) zero zero h k = Perm-refl (x ∷ xs)
Perm-exchanged d (x ∷ xs) zero (suc j) h k = let lt : j < length xs = omega arith in Perm-set x d xs j lt
Perm-exchanged d (x ∷ xs) (suc i) zero h k = let lt : i < length xs = omega arith in Perm-set x d xs i lt
Perm-exchanged d (x ∷ xs) (suc i) (suc j) h k =
    let hi : i < length xs = omega arith in let hj : j < length xs = omega arith in keep x (Perm-exchanged d xs i j hi hj)

Perm-swap : {X : Type 0} (xs : List X) (i j : ℕ) → i < length xs → j < length xs → Perm xs (swap xs i j)
Perm-swap [] i j h k = empty
Perm-swap (x ∷ xs) i j h k = Perm-exchanged x (x ∷ xs) i j h k

pub Perm-from_IsPermutation : {X : Type 0} (xs ys : List X) → IsPermutation xs ys → Perm xs ys
Perm-from_IsPermutation xs ys p = IsPermutation-keeps xs (λ l. Perm xs l) (Perm-refl xs) (λ l i j h k q. chain q (Perm-swap l i j h k)) ys p
