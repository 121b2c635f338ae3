-- That no two items are the same does not depend on their order, and a rising list shows it at neighbours.
use Rattle.std.proofs.Common.{◌≡◌, ℕ, ◌+◌, ◌<◌, ◌≤◌, length, length-drop, get_or, drop, arith, List, [], ◌∷◌, Bool, true, false, cond, not, ◌&&◌, ◌||◌, refl, sym, ap, ◌∙◌, true≢false}
use Rattle.std.specs.List.{list_any, filter, AllByRecursion}
use Rattle.std.proofs.lemmas.List.{drop_more}
use Rattle.vtl_lists.specs.Apart.{all_apart}
use Rattle.vtl_lists.specs.Perm.{Perm, empty, keep, cross, chain}
use Rattle.vtl_lists.specs.Sorting.{Rises}
use Rattle.vtl_lists.proofs.Sorts.{AllByRecursion-filter}

or_swap : (a b c : Bool) → (a || (b || c)) ≡ (b || (a || c))
or_swap true true c = refl
or_swap true false c = refl
or_swap false b c = refl

pub list_any-Perm : {X : Type 0} (p : X → Bool) {xs ys : List X} → Perm xs ys → list_any p xs ≡ list_any p ys
list_any-Perm p empty = refl
list_any-Perm p (keep x q) = ap (λ b. p x || b) (list_any-Perm p q)
list_any-Perm p (cross x y xs) = or_swap (p x) (p y) (list_any p xs)
list_any-Perm p (chain q r) = list_any-Perm p q ∙ list_any-Perm p r

-- x apart from y and from the rest, y apart from the rest, and the rest
apart_swap : (xy yx x y r : Bool) → xy ≡ yx → (not (xy || x) && (not y && r)) ≡ (not (yx || y) && (not x && r))
apart_swap true true x y r e = refl
apart_swap true false x y r e = absurd (true≢false e)
apart_swap false true x y r e = absurd (true≢false (sym e))
apart_swap false false true true r e = refl
apart_swap false false true false r e = refl
apart_swap false false false true r e = refl
apart_swap false false false false r e = refl

module _ {X : Type 0} (same : X → X → Bool) (turn : (x y : X) → same x y ≡ same y x) where
  pub all_apart-Perm : {xs ys : List X} → Perm xs ys → all_apart same xs ≡ all_apart same ys
  all_apart-Perm empty = refl
  all_apart-Perm (keep x {xs} {ys} q) = ap (λ b. not b && all_apart same xs) (list_any-Perm (same x) q) ∙ ap (λ b. not (list_any (same x) ys) && b) (all_apart-Perm q)
  all_apart-Perm (cross x y xs) = apart_swap (same x y) (same y x) (list_any (same x) xs) (list_any (same y) xs) (all_apart same xs) (turn x y)
  all_apart-Perm (chain q r) = all_apart-Perm q ∙ all_apart-Perm r

-- an item apart from each later one, and the later ones from one another
pub none_same : {X : Type 0} (p : X → Bool) (xs : List X) → list_any p xs ≡ false → AllByRecursion (λ y. p y ≡ false) xs
none_same p [] e = tt
none_same p (x ∷ xs) e = go (p x) refl (none_same p xs) e
  where
    go : (b : Bool) → p x ≡ b → (list_any p xs ≡ false → AllByRecursion (λ y. p y ≡ false) xs) → (b || list_any p xs) ≡ false → AllByRecursion (λ y. p y ≡ false) (x ∷ xs)
    go true t h e = absurd (true≢false e)
    go false t h e = (t, h e)

pub none_is : {X : Type 0} (p : X → Bool) (xs : List X) → AllByRecursion (λ y. p y ≡ false) xs → list_any p xs ≡ false
none_is p [] all = refl
none_is p (x ∷ xs) all = ap (λ b. b || list_any p xs) all.0 ∙ none_is p xs all.1

pub apart_parts : {X : Type 0} (same : X → X → Bool) (x : X) (xs : List X) → all_apart same (x ∷ xs) ≡ true → AllByRecursion (λ y. same x y ≡ false) xs × (all_apart same xs ≡ true)
apart_parts same x xs e = go (list_any (same x) xs) refl e
  where
    go : (b : Bool) → list_any (same x) xs ≡ b → (not b && all_apart same xs) ≡ true → AllByRecursion (λ y. same x y ≡ false) xs × (all_apart same xs ≡ true)
    go true t e = absurd (true≢false (sym e))
    go false t e = (none_same (same x) xs t, e)

pub apart_more : {X : Type 0} (same : X → X → Bool) (x : X) (xs : List X) → AllByRecursion (λ y. same x y ≡ false) xs → all_apart same xs ≡ true → all_apart same (x ∷ xs) ≡ true
apart_more same x xs all e = ap (λ b. not b && all_apart same xs) (none_is (same x) xs all) ∙ e

pub all_apart-filter : {X : Type 0} (same : X → X → Bool) (p : X → Bool) (xs : List X) → all_apart same xs ≡ true → all_apart same (filter p xs) ≡ true
all_apart-filter same p [] e = refl
all_apart-filter same p (x ∷ xs) e = go (p x) (all_apart-filter same p xs (apart_parts same x xs e).1)
  where
    go : (b : Bool) → all_apart same (filter p xs) ≡ true → all_apart same (cond b (x ∷ filter p xs) (filter p xs)) ≡ true
    go true ih = apart_more same x (filter p xs) (AllByRecursion-filter (λ y. same x y ≡ false) p xs (apart_parts same x xs e).0) ih
    go false ih = ih

-- whether each item differs from the next
abbrev pub neighbours_apart : {X : Type 0} → (X → X → Bool) → List X → Bool
neighbours_apart same [] = true
neighbours_apart same (x ∷ []) = true
neighbours_apart same (x ∷ y ∷ xs) = not (same x y) && neighbours_apart same (y ∷ xs)

-- Between x and z lies y: where x is the same as z, it is the same as y.
module _ {X : Type 0} (same le : X → X → Bool) (between : (x y z : X) → le x y ≡ true → le y z ≡ true → same x z ≡ true → same x y ≡ true) where
  none_later : (x y : X) (zs : List X) → le x y ≡ true → same x y ≡ false → AllByRecursion (λ z. le y z ≡ true) zs → list_any (same x) zs ≡ false
  none_later x y [] h e all = refl
  none_later x y (z ∷ zs) h e all = go (same x z) refl (none_later x y zs h e all.1)
    where
      go : (b : Bool) → same x z ≡ b → list_any (same x) zs ≡ false → (b || list_any (same x) zs) ≡ false
      go true t ih = absurd (true≢false (sym (between x y z h all.0 t) ∙ e))
      go false t ih = ih

  pub neighbours_suffice : (xs : List X) → Rises le xs → neighbours_apart same xs ≡ all_apart same xs
  neighbours_suffice [] r = refl
  neighbours_suffice (x ∷ []) r = refl
  neighbours_suffice (x ∷ y ∷ zs) r = ap (λ b. not (same x y) && b) (neighbours_suffice (y ∷ zs) r.1) ∙ go (same x y) refl
    where
      go : (b : Bool) → same x y ≡ b → (not b && all_apart same (y ∷ zs)) ≡ (not (b || list_any (same x) zs) && all_apart same (y ∷ zs))
      go true e = refl
      go false e = ap (λ c. not c && all_apart same (y ∷ zs)) (sym (none_later x y zs r.0.0 e r.1.0))

-- one place of a walk over neighbours
pub two_neighbours : {X : Type 0} (same : X → X → Bool) (xs : List X) (i : ℕ) (x y : X) → i + 1 < length xs → x ≡ get_or xs i x → y ≡ get_or xs (i + 1) y
    → neighbours_apart same (drop i xs) ≡ (not (same x y) && neighbours_apart same (drop (i + 1) xs))
two_neighbours same xs i x y h at_x at_y =
    let k : i < length xs = omega arith in
    let second = drop_more xs (i + 1) y h ∙ ap (λ z. z ∷ drop (i + 1 + 1) xs) (sym at_y) in
    ap (neighbours_apart same) (drop_more xs i x k ∙ ap (λ z. z ∷ drop (i + 1) xs) (sym at_x) ∙ ap (λ l. x ∷ l) second)
    ∙ ap (λ l. not (same x y) && neighbours_apart same l) (sym second)

at_most_one : {X : Type 0} (same : X → X → Bool) (xs : List X) → length xs ≤ 1 → neighbours_apart same xs ≡ true
at_most_one same [] h = refl
at_most_one same (x ∷ []) h = refl
at_most_one same (x ∷ y ∷ xs) h = absurd (omega arith)

pub no_neighbours : {X : Type 0} (same : X → X → Bool) (xs : List X) (i : ℕ) → length xs ≤ i + 1 → neighbours_apart same (drop i xs) ≡ true
no_neighbours same xs i h = let few : length (drop i xs) ≤ 1 = simp length-drop (omega arith) in at_most_one same (drop i xs) few
