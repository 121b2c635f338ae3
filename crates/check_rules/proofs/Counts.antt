-- Items at their places: how many pass a test, which is the first, and what changes where one place more is done.
use Rattle.std.proofs.Common.{◌≡◌, ℕ, zero, suc, ◌+◌, ◌<◌, Bool, true, false, ◌&&◌, ◌||◌, cond, List, [], ◌∷◌, ◌++◌, Some, None, refl, sym, ap, ◌∙◌, arith}
use Rattle.std.specs.Prelude.{slice_get, nat_eq, nat_lt, filter}
use Rattle.std.specs.List.{enumerate_from, find, list_any}
use Rattle.std.proofs.lemmas.Bool.{eq-eqb, lt-ltb, ne_eqb}
use Rattle.std.proofs.lemmas.List.Folds.{list_any-append}
use Rattle.check_rules.specs.Running.{number}

module _ {X : Type 0} where
  -- an item at its place
  pub at_place : (n : ℕ) (xs : List X) (i : ℕ) (x : X) → slice_get xs i ≡ Some x → slice_get (enumerate_from n xs) i ≡ Some (n + i, x)
  at_place n [] i x e = cc
  at_place n (y ∷ ys) zero x e = let same : y ≡ x = cc in ap (λ z. Some (n, z)) same ∙ ap (λ m. Some (m, x)) (omega arith)
  at_place n (y ∷ ys) (suc i) x e = at_place (n + 1) ys i x e ∙ ap (λ m. Some (m, x)) (omega arith)

  -- what stands among the items at their places
  pub place_is : (n : ℕ) (xs : List X) (i : ℕ) (x : ℕ × X) → slice_get (enumerate_from n xs) i ≡ Some x → (x.0 ≡ n + i) × (slice_get xs i ≡ Some x.1)
  place_is n [] i x e = cc
  place_is n (y ∷ ys) zero x e = let same : (n, y) ≡ x = cc in (sym (ap (λ z. z.0) same) ∙ omega arith, ap (λ z. Some z.1) same)
  place_is n (y ∷ ys) (suc i) x e = let h = place_is (n + 1) ys i x e in (h.0 ∙ omega arith, h.1)

module _ {X : Type 0} (keep test : X → Bool) where
  -- the first of those that are kept
  pub first_kept : (xs : List X) (i : ℕ) (x : X) → slice_get xs i ≡ Some x → keep x ≡ true → test x ≡ true
      → ((j : ℕ) (y : X) → j < i → slice_get xs j ≡ Some y → keep y ≡ true → test y ≡ false) → find test (filter keep xs) ≡ Some x
  first_kept [] i x e k t h = cc
  first_kept (y ∷ ys) zero x e k t h =
      let same : y ≡ x = cc in
      ap (λ b. find test (cond b (y ∷ filter keep ys) (filter keep ys))) (ap keep same ∙ k) ∙ ap (λ b. cond b (Some y) (find test (filter keep ys))) (ap test same ∙ t) ∙ ap Some same
  first_kept (y ∷ ys) (suc i) x e k t h = go (keep y) refl (first_kept ys i x e k t (λ j z l s. h (suc j) z (omega arith) s))
    where
      go : (b : Bool) → keep y ≡ b → find test (filter keep ys) ≡ Some x → find test (cond b (y ∷ filter keep ys) (filter keep ys)) ≡ Some x
      go true kept ih = ap (λ c. cond c (Some y) (find test (filter keep ys))) (h zero y (omega arith) refl kept) ∙ ih
      go false kept ih = ih

  -- none of those that are kept passes
  pub none_kept : (xs : List X) → ((j : ℕ) (y : X) → slice_get xs j ≡ Some y → keep y ≡ true → test y ≡ false) → find test (filter keep xs) ≡ None
  none_kept [] h = refl
  none_kept (y ∷ ys) h = go (keep y) refl (none_kept ys (λ j z s. h (suc j) z s))
    where
      go : (b : Bool) → keep y ≡ b → find test (filter keep ys) ≡ None → find test (cond b (y ∷ filter keep ys) (filter keep ys)) ≡ None
      go true kept ih = ap (λ c. cond c (Some y) (find test (filter keep ys))) (h zero y refl kept) ∙ ih
      go false kept ih = ih

  -- whether one of those that are kept passes, by their number
  pub any_numbered : (xs : List X) → list_any test (filter keep xs) ≡ nat_lt 0 (number (λ x. keep x && test x) xs)
  any_numbered [] = refl
  any_numbered (y ∷ ys) = go (keep y) (test y) (any_numbered ys)
    where
      n : ℕ
      n = number (λ x. keep x && test x) ys

      go : (b c : Bool) → list_any test (filter keep ys) ≡ nat_lt 0 n
          → list_any test (cond b (y ∷ filter keep ys) (filter keep ys)) ≡ nat_lt 0 (cond (b && test y) (suc n) n)
      go true c ih = more (test y) ih
        where
          more : (t : Bool) → list_any test (filter keep ys) ≡ nat_lt 0 n → (t || list_any test (filter keep ys)) ≡ nat_lt 0 (cond t (suc n) n)
          more true ih = sym (lt-ltb 0 (suc n) (omega arith))
          more false ih = ih
      go false c ih = ih

module _ {X : Type 0} (keep test : ℕ × X → Bool) (place : ℕ) where
  -- all that are kept, but for the one at a place
  abbrev pub others : ℕ × X → Bool
  others x = cond (nat_eq x.0 place) false (keep x) && test x

  abbrev pub all_kept : ℕ × X → Bool
  all_kept x = keep x && test x

  beyond : (n : ℕ) (xs : List X) → place < n → number others (enumerate_from n xs) ≡ number all_kept (enumerate_from n xs)
  beyond n [] l = refl
  beyond n (x ∷ xs) l =
      ap (λ b. cond (cond b false (keep (n, x)) && test (n, x)) (suc (number others (enumerate_from (n + 1) xs))) (number others (enumerate_from (n + 1) xs))) (ne_eqb n place (λ e. omega (arith, e)))
      ∙ ap (λ m. cond (keep (n, x) && test (n, x)) (suc m) m) (beyond (n + 1) xs (omega arith))

  -- with the one at the place they are one more, where that one counts
  pub one_less : (n i : ℕ) (xs : List X) (x : X) → place ≡ n + i → slice_get xs i ≡ Some x
      → number all_kept (enumerate_from n xs) ≡ cond (all_kept (place, x)) (suc (number others (enumerate_from n xs))) (number others (enumerate_from n xs))
  one_less n i [] x e s = cc
  one_less n zero (y ∷ ys) x e s =
      let same : y ≡ x = cc in
      let here : n ≡ place = omega arith in
      let gone : number others (enumerate_from n (y ∷ ys)) ≡ number all_kept (enumerate_from (n + 1) ys) =
      ap (λ b. cond (cond b false (keep (n, y)) && test (n, y)) (suc (number others (enumerate_from (n + 1) ys))) (number others (enumerate_from (n + 1) ys))) (eq-eqb n place here)
      ∙ beyond (n + 1) ys (omega arith) in
      ap (λ m. cond (all_kept (m, y)) (suc (number all_kept (enumerate_from (n + 1) ys))) (number all_kept (enumerate_from (n + 1) ys))) here
      ∙ ap (λ z. cond (all_kept (place, z)) (suc (number all_kept (enumerate_from (n + 1) ys))) (number all_kept (enumerate_from (n + 1) ys))) same
      ∙ ap (λ m. cond (all_kept (place, x)) (suc m) m) (sym gone)
  one_less n (suc i) (y ∷ ys) x e s =
      ap (λ m. cond (all_kept (n, y)) (suc m) m) (one_less (n + 1) i ys x (omega arith) s)
      ∙ turned (all_kept (n, y)) (all_kept (place, x)) (number others (enumerate_from (n + 1) ys))
      ∙ ap (λ b. cond (all_kept (place, x)) (suc (cond (cond b false (keep (n, y)) && test (n, y)) (suc (number others (enumerate_from (n + 1) ys))) (number others (enumerate_from (n + 1) ys)))) (cond (cond b false (keep (n, y)) && test (n, y)) (suc (number others (enumerate_from (n + 1) ys))) (number others (enumerate_from (n + 1) ys))))
      (sym (ne_eqb n place (λ q. omega (arith, q))))
    where
      turned : (a b : Bool) (m : ℕ) → cond a (suc (cond b (suc m) m)) (cond b (suc m) m) ≡ cond b (suc (cond a (suc m) m)) (cond a (suc m) m)
      turned true true m = refl
      turned true false m = refl
      turned false true m = refl
      turned false false m = refl

-- one place more among others
pub place_more : (places : List ℕ) (place q : ℕ) → list_any (nat_eq q) (places ++ place ∷ []) ≡ (list_any (nat_eq q) places || nat_eq q place)
place_more places place q = list_any-append (nat_eq q) places (place ∷ []) ∙ go (list_any (nat_eq q) places) (nat_eq q place)
  where
    go : (a b : Bool) → (a || (b || false)) ≡ (a || b)
    go true b = refl
    go false true = refl
    go false false = refl
