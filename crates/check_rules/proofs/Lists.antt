-- Tests of all items or of one, and lists that are gathered place by place.
use Rattle.std.proofs.Common.{◌≡◌, ◌⊎◌, inl, inr, ℕ, zero, suc, ◌+◌, ◌<◌, Bool, true, false, ◌&&◌, ◌||◌, cond, List, [], ◌∷◌, ◌++◌, map, length, take, drop, get_or, Some, refl, sym, ap, ◌∙◌, arith, append_assoc, append-nil}
use Rattle.std.specs.Prelude.{slice_get, nat_eq, filter}
use Rattle.std.specs.List.{enumerate_from, flat_map, list_all, list_any}
use Rattle.std.proofs.lemmas.Bool.{and_from, and_parts, and_right, eq-eqb, eqb-true, or_cases, or_left, or_right}
use Rattle.std.proofs.lemmas.List.{drop_more}
use Rattle.std.proofs.lemmas.List.Folds.{list_any-append}
use Rattle.check_rules.specs.Running.{is_place_in}

module _ {X : Type 0} where
  -- ---- tests of all items
  pub all_where : (p q : X → Bool) → ((x : X) → p x ≡ true → q x ≡ true) → (xs : List X) → list_all p xs ≡ true → list_all q xs ≡ true
  all_where p q h [] e = refl
  all_where p q h (x ∷ xs) e = let parts = and_parts (p x) (list_all p xs) e in and_from (q x) (list_all q xs) (h x parts.0) (all_where p q h xs parts.1)

  all_next : (p : X → Bool) (xs : List X) (k : ℕ) (x : X) → slice_get xs k ≡ Some x → p x ≡ true → list_all p (take k xs) ≡ true → list_all p (take (suc k) xs) ≡ true
  all_next p [] k x e t h = cc
  all_next p (y ∷ ys) zero x e t h = let same : y ≡ x = cc in and_from (p y) true (ap p same ∙ t) refl
  all_next p (y ∷ ys) (suc k) x e t h = let parts = and_parts (p y) (list_all p (take k ys)) h in and_from (p y) (list_all p (take (suc k) ys)) parts.0 (all_next p ys k x e t parts.1)

  pub all_more : (p : X → Bool) (xs : List X) (k : ℕ) (x : X) → slice_get xs k ≡ Some x → p x ≡ true → list_all p (take k xs) ≡ true → list_all p (take (k + 1) xs) ≡ true
  all_more p xs k x e t h =
      let next : k + 1 ≡ suc k = omega arith in
      ap (λ m. list_all p (take m xs)) next ∙ all_next p xs k x e t h

  pub all_fails : (p : X → Bool) (xs : List X) (k : ℕ) (x : X) → slice_get xs k ≡ Some x → p x ≡ false → list_all p xs ≡ false
  all_fails p [] k x e t = cc
  all_fails p (y ∷ ys) zero x e t = let same : y ≡ x = cc in ap (λ b. b && list_all p ys) (ap p same ∙ t)
  all_fails p (y ∷ ys) (suc k) x e t = and_right (p y) (list_all p ys) (all_fails p ys k x e t)

  pub all_at : (p : X → Bool) (xs : List X) (k : ℕ) (x : X) → slice_get xs k ≡ Some x → list_all p xs ≡ true → p x ≡ true
  all_at p [] k x e h = cc
  all_at p (y ∷ ys) zero x e h = let same : y ≡ x = cc in ap p (sym same) ∙ (and_parts (p y) (list_all p ys) h).0
  all_at p (y ∷ ys) (suc k) x e h = all_at p ys k x e (and_parts (p y) (list_all p ys) h).1

  -- one of the items that fail
  pub one_fails : (p : X → Bool) (xs : List X) → list_all p xs ≡ false → (k : ℕ) × (x : X) × (slice_get xs k ≡ Some x) × (p x ≡ false)
  one_fails p [] e = cc
  one_fails p (y ∷ ys) e = go (p y) refl e (one_fails p ys)
    where
      go : (b : Bool) → p y ≡ b → (b && list_all p ys) ≡ false → (list_all p ys ≡ false → (k : ℕ) × (x : X) × (slice_get ys k ≡ Some x) × (p x ≡ false)) → (k : ℕ) × (x : X) × (slice_get (y ∷ ys) k ≡ Some x) × (p x ≡ false)
      go false here e ih = (zero, y, refl, here)
      go true here e ih = let rest = ih e in (suc rest.0, rest.1, rest.2, rest.3)

  -- ---- tests of one item
  pub any_at : (p : X → Bool) (xs : List X) (k : ℕ) (x : X) → slice_get xs k ≡ Some x → p x ≡ true → list_any p xs ≡ true
  any_at p [] k x e t = cc
  any_at p (y ∷ ys) zero x e t = let same : y ≡ x = cc in or_left (p y) (list_any p ys) (ap p same ∙ t)
  any_at p (y ∷ ys) (suc k) x e t = or_right (p y) (list_any p ys) (any_at p ys k x e t)

  pub one_passes : (p : X → Bool) (xs : List X) → list_any p xs ≡ true → (k : ℕ) × (x : X) × (slice_get xs k ≡ Some x) × (p x ≡ true)
  one_passes p [] e = cc
  one_passes p (y ∷ ys) e = go (p y) refl e (one_passes p ys)
    where
      go : (b : Bool) → p y ≡ b → (b || list_any p ys) ≡ true → (list_any p ys ≡ true → (k : ℕ) × (x : X) × (slice_get ys k ≡ Some x) × (p x ≡ true)) → (k : ℕ) × (x : X) × (slice_get (y ∷ ys) k ≡ Some x) × (p x ≡ true)
      go true here e ih = (zero, y, refl, here)
      go false here e ih = let rest = ih e in (suc rest.0, rest.1, rest.2, rest.3)

  -- ---- places of items
  -- the places of those that pass
  pub among_places : (test : ℕ × X → Bool) (xs : List (ℕ × X)) (j : ℕ) (x : ℕ × X) → slice_get xs j ≡ Some x → test x ≡ true → is_place_in (map (λ y. y.0) (filter test xs)) x.0 ≡ true
  among_places test [] j x e t = cc
  among_places test (y ∷ ys) zero x e t =
      let same : y ≡ x = cc in
      ap (λ b. is_place_in (map (λ z. z.0) (cond b (y ∷ filter test ys) (filter test ys))) x.0) (ap test same ∙ t)
      ∙ or_left (nat_eq x.0 y.0) (is_place_in (map (λ z. z.0) (filter test ys)) x.0) (eq-eqb x.0 y.0 (ap (λ z. z.0) (sym same)))
  among_places test (y ∷ ys) (suc j) x e t = go (test y) (among_places test ys j x e t)
    where
      go : (b : Bool) → is_place_in (map (λ z. z.0) (filter test ys)) x.0 ≡ true → is_place_in (map (λ z. z.0) (cond b (y ∷ filter test ys) (filter test ys))) x.0 ≡ true
      go true h = or_right (nat_eq x.0 y.0) (is_place_in (map (λ z. z.0) (filter test ys)) x.0) h
      go false h = h

  pub place_among : (test : ℕ × X → Bool) (xs : List (ℕ × X)) (i : ℕ) → is_place_in (map (λ y. y.0) (filter test xs)) i ≡ true
      → (j : ℕ) × (x : ℕ × X) × (slice_get xs j ≡ Some x) × (test x ≡ true) × (i ≡ x.0)
  place_among test [] i e = cc
  place_among test (y ∷ ys) i e = go (test y) refl (place_among test ys i) e
    where
      Found : Type 0
      Found = (j : ℕ) × (x : ℕ × X) × (slice_get (y ∷ ys) j ≡ Some x) × (test x ≡ true) × (i ≡ x.0)

      later : (j : ℕ) × (x : ℕ × X) × (slice_get ys j ≡ Some x) × (test x ≡ true) × (i ≡ x.0) → Found
      later f = (suc f.0, f.1, f.2, f.3, f.4)

      go : (b : Bool) → test y ≡ b → (is_place_in (map (λ z. z.0) (filter test ys)) i ≡ true → (j : ℕ) × (x : ℕ × X) × (slice_get ys j ≡ Some x) × (test x ≡ true) × (i ≡ x.0))
          → is_place_in (map (λ z. z.0) (cond b (y ∷ filter test ys) (filter test ys))) i ≡ true → Found
      go false t ih e = later (ih e)
      go true t ih e = pick (or_cases (nat_eq i y.0) (is_place_in (map (λ z. z.0) (filter test ys)) i) e)
        where
          pick : (nat_eq i y.0 ≡ true) ⊎ (is_place_in (map (λ z. z.0) (filter test ys)) i ≡ true) → Found
          pick (inl h) = (zero, y, refl, t, eqb-true i y.0 h)
          pick (inr h) = later (ih h)

  -- ---- lists that are gathered of items at their places
  pub gathered : {Y : Type 0} (f : ℕ × X → List Y) (xs : List X) (i : ℕ) (x : X) (before now total : List Y) → i < length xs → x ≡ get_or xs i x → now ≡ before ++ f (i, x)
      → before ++ flat_map f (enumerate_from i (drop i xs)) ≡ total → now ++ flat_map f (enumerate_from (i + 1) (drop (i + 1) xs)) ≡ total
  gathered f xs i x before now total within is e h =
      ap (λ l. l ++ flat_map f (enumerate_from (i + 1) (drop (i + 1) xs))) e ∙ append_assoc before (f (i, x)) (flat_map f (enumerate_from (i + 1) (drop (i + 1) xs)))
      ∙ sym (ap (λ l. before ++ flat_map f (enumerate_from i l)) (drop_more xs i x within ∙ ap (λ y. y ∷ drop (i + 1) xs) (sym is)))
      ∙ h

  taken_next : {Y : Type 0} (f : X → List Y) (xs : List X) (k : ℕ) (x : X) → slice_get xs k ≡ Some x → flat_map f (take (suc k) xs) ≡ flat_map f (take k xs) ++ f x
  taken_next f [] k x e = cc
  taken_next f (y ∷ ys) zero x e = let same : y ≡ x = cc in append-nil (f y) ∙ ap f same
  taken_next f (y ∷ ys) (suc k) x e = ap (λ l. f y ++ l) (taken_next f ys k x e) ∙ sym (append_assoc (f y) (flat_map f (take k ys)) (f x))

  pub taken_more : {Y : Type 0} (f : X → List Y) (xs : List X) (k : ℕ) (x : X) → slice_get xs k ≡ Some x → flat_map f (take (k + 1) xs) ≡ flat_map f (take k xs) ++ f x
  taken_more f xs k x e =
      let next : k + 1 ≡ suc k = omega arith in
      ap (λ m. flat_map f (take m xs)) next ∙ taken_next f xs k x e

  -- a place for each item that passes
  pub places_kept : (test : ℕ × X → Bool) (xs : List (ℕ × X)) → flat_map (λ x. cond (test x) (x.0 ∷ []) []) xs ≡ map (λ x. x.0) (filter test xs)
  places_kept test [] = refl
  places_kept test (x ∷ xs) = go (test x) (places_kept test xs)
    where
      go : (b : Bool) → flat_map (λ x. cond (test x) (x.0 ∷ []) []) xs ≡ map (λ x. x.0) (filter test xs)
          → cond b (x.0 ∷ []) [] ++ flat_map (λ x. cond (test x) (x.0 ∷ []) []) xs ≡ map (λ x. x.0) (cond b (x ∷ filter test xs) (filter test xs))
      go true h = ap (λ l. x.0 ∷ l) h
      go false h = h

  -- ---- where something is gathered of an item
  pub gathered_at : {Y : Type 0} (test : Y → Bool) (f : X → List Y) (xs : List X) (k : ℕ) (x : X) → slice_get xs k ≡ Some x → list_any test (f x) ≡ true → list_any test (flat_map f xs) ≡ true
  gathered_at test f [] k x e h = cc
  gathered_at test f (y ∷ ys) zero x e h =
      let same : y ≡ x = cc in
      list_any-append test (f y) (flat_map f ys) ∙ or_left (list_any test (f y)) (list_any test (flat_map f ys)) (ap (λ z. list_any test (f z)) same ∙ h)
  gathered_at test f (y ∷ ys) (suc k) x e h =
      list_any-append test (f y) (flat_map f ys) ∙ or_right (list_any test (f y)) (list_any test (flat_map f ys)) (gathered_at test f ys k x e h)

  pub gathered_from : {Y : Type 0} (test : Y → Bool) (f : X → List Y) (xs : List X) → list_any test (flat_map f xs) ≡ true → (k : ℕ) × (x : X) × (slice_get xs k ≡ Some x) × (list_any test (f x) ≡ true)
  gathered_from test f [] e = cc
  gathered_from {Y} test f (y ∷ ys) e = pick (or_cases (list_any test (f y)) (list_any test (flat_map f ys)) (sym (list_any-append test (f y) (flat_map f ys)) ∙ e)) (gathered_from test f ys)
    where
      pick : (list_any test (f y) ≡ true) ⊎ (list_any test (flat_map f ys) ≡ true)
          → (list_any test (flat_map f ys) ≡ true → (k : ℕ) × (x : X) × (slice_get ys k ≡ Some x) × (list_any test (f x) ≡ true))
          → (k : ℕ) × (x : X) × (slice_get (y ∷ ys) k ≡ Some x) × (list_any test (f x) ≡ true)
      pick (inl h) ih = (zero, y, refl, h)
      pick (inr h) ih = let rest = ih h in (suc rest.0, rest.1, rest.2, rest.3)
