-- The items of a list, each once.
use Rattle.std.proofs.Common.{◌≡◌, List, [], ◌∷◌, ◌++◌, Bool, true, false, not, ◌&&◌, ◌||◌, cond, refl, sym, ap, ◌∙◌}
use Rattle.std.specs.List.{AllByRecursion, filter, fold, list_any}
use Rattle.std.proofs.lemmas.List.{append-nil}
use Rattle.std.proofs.lemmas.List.Elements.{filter-append}
use Rattle.vtl_lists.specs.Apart.{all_apart}
use Rattle.vtl_lists.proofs.Aparts.{all_apart-filter, apart_more, apart_parts}
use Rattle.vtl_lists.proofs.Filters.{filter-filter, filter_all}
use Rattle.vtl_lists.proofs.Sorts.{AllByRecursion-filter}
use Rattle.vtl_tuples.specs.Keys.{TellsApart, and_once, each_once}
use Rattle.vtl_tuples.proofs.Folds.{after_each}
use Rattle.vtl_tuples.proofs.Lists.{filter_each}

not_either : (a b : Bool) → not (a || b) ≡ (not b && not a)
not_either true true = refl
not_either true false = refl
not_either false true = refl
not_either false false = refl

-- what a filter for another item keeps is another one
kept_apart : {X : Type 0} (same : X → X → Bool) (x : X) (xs : List X) → AllByRecursion (λ y. same x y ≡ false) (filter (λ y. not (same x y)) xs)
kept_apart same x [] = tt
kept_apart same x (y ∷ ys) = go (same x y) refl (kept_apart same x ys)
  where
    go : (b : Bool) → same x y ≡ b → AllByRecursion (λ z. same x z ≡ false) (filter (λ z. not (same x z)) ys) → AllByRecursion (λ z. same x z ≡ false) (cond (not b) (y ∷ filter (λ z. not (same x z)) ys) (filter (λ z. not (same x z)) ys))
    go true e ih = ih
    go false e ih = (e, ih)

-- what holds of each item holds of each that is left
pub once_hold : {X : Type 0} (P : X → Type 0) (same : X → X → Bool) (xs : List X) → AllByRecursion P xs → AllByRecursion P (each_once same xs)
once_hold P same [] all = tt
once_hold P same (x ∷ xs) all = (all.0, AllByRecursion-filter P (λ y. not (same x y)) (each_once same xs) (once_hold P same xs all.1))

module _ {K : Type 0} (same : K → K → Bool) where
  pub once_apart : (ks : List K) → all_apart same (each_once same ks) ≡ true
  once_apart [] = refl
  once_apart (k ∷ ks) =
      apart_more same k (filter (λ j. not (same k j)) (each_once same ks)) (kept_apart same k (each_once same ks)) (all_apart-filter same (λ j. not (same k j)) (each_once same ks) (once_apart ks))

  pub once_more : (ks js : List K) → each_once same (ks ++ js) ≡ each_once same ks ++ filter (λ j. not (list_any (λ k. same k j) ks)) (each_once same js)
  once_more [] js = sym (filter_all (λ j. true) (each_once same js) (always (each_once same js)))
    where
      always : (l : List K) → AllByRecursion (λ j. true ≡ true) l
      always [] = tt
      always (j ∷ l) = (refl, always l)
  once_more (k ∷ ks) js =
      let later = filter (λ j. not (list_any (λ i. same i j) ks)) (each_once same js) in
      ap (λ l. k ∷ filter (λ j. not (same k j)) l) (once_more ks js)
      ∙ ap (λ l. k ∷ l) (filter-append (λ j. not (same k j)) (each_once same ks) later)
      ∙ ap (λ l. k ∷ filter (λ j. not (same k j)) (each_once same ks) ++ l)
      (filter-filter (λ j. not (same k j)) (λ j. not (list_any (λ i. same i j) ks)) (each_once same js)
      ∙ filter_each (λ j. not (list_any (λ i. same i j) ks) && not (same k j)) (λ j. not (same k j || list_any (λ i. same i j) ks)) (λ j. sym (not_either (same k j) (list_any (λ i. same i j) ks))) (each_once same js))

  -- a list with each item once
  pub once_already : (ks : List K) → all_apart same ks ≡ true → each_once same ks ≡ ks
  once_already [] e = refl
  once_already (k ∷ ks) e =
      let parts = apart_parts same k ks e in
      ap (λ l. k ∷ filter (λ j. not (same k j)) l) (once_already ks parts.1) ∙ ap (λ l. k ∷ l) (filter_all (λ j. not (same k j)) ks (negated ks parts.0))
    where
      negated : (l : List K) → AllByRecursion (λ y. same k y ≡ false) l → AllByRecursion (λ y. not (same k y) ≡ true) l
      negated [] all = tt
      negated (y ∷ l) all = (ap not all.0, negated l all.1)

-- an item is among those each once where it is among all
module _ {K : Type 0} (same : K → K → Bool) (alike : (i j k : K) → same k i ≡ true → same k j ≡ same i j) where
  any_cond : (p : K → Bool) (b : Bool) (k : K) (l : List K) → list_any p (cond b (k ∷ l) l) ≡ ((b && p k) || list_any p l)
  any_cond p true k l = refl
  any_cond p false k l = refl

  others : (k j : K) (l : List K) → same k j ≡ false → list_any (λ i. same i j) (filter (λ i. not (same k i)) l) ≡ list_any (λ i. same i j) l
  others k j [] e = refl
  others k j (i ∷ l) e = any_cond (λ z. same z j) (not (same k i)) i (filter (λ z. not (same k z)) l) ∙ ap (λ b. (not (same k i) && same i j) || b) (others k j l e) ∙ ap (λ b. b || list_any (λ z. same z j) l) (go (same k i) refl)
    where
      go : (b : Bool) → same k i ≡ b → (not b && same i j) ≡ same i j
      go true h = sym e ∙ alike i j k h
      go false h = refl

  pub among_once : (ks : List K) (j : K) → list_any (λ k. same k j) (each_once same ks) ≡ list_any (λ k. same k j) ks
  among_once [] j = refl
  among_once (k ∷ ks) j = go (same k j) refl (among_once ks j)
    where
      go : (b : Bool) → same k j ≡ b → list_any (λ i. same i j) (each_once same ks) ≡ list_any (λ i. same i j) ks → (b || list_any (λ i. same i j) (filter (λ i. not (same k i)) (each_once same ks))) ≡ (b || list_any (λ i. same i j) ks)
      go true e ih = refl
      go false e ih = others k j (each_once same ks) e ∙ ih

-- ---- one item after the other
module _ {K : Type 0} (same : K → K → Bool) (alike : (i j k : K) → same k i ≡ true → same k j ≡ same i j) where
  pub once_one : (ks : List K) (k : K) → each_once same (ks ++ k ∷ []) ≡ and_once same (each_once same ks) k
  once_one ks k =
      once_more same ks (k ∷ []) ∙ ap (λ b. each_once same ks ++ cond (not b) (k ∷ []) []) (sym (among_once same alike ks k)) ∙ go (list_any (λ j. same j k) (each_once same ks))
    where
      go : (b : Bool) → each_once same ks ++ cond (not b) (k ∷ []) [] ≡ cond b (each_once same ks) (each_once same ks ++ k ∷ [])
      go true = append-nil (each_once same ks)
      go false = refl

  pub once_all : (ks js : List K) → each_once same (ks ++ js) ≡ fold (and_once same) (each_once same ks) js
  once_all = after_each (each_once same) (and_once same) once_one

-- ---- a test that tells items apart
pub alike : {K : Type 0} (same : K → K → Bool) → TellsApart same → (i j k : K) → same k i ≡ true → same k j ≡ same i j
alike same tells i j k e = ap (λ z. same z j) (tells.is k i e)
