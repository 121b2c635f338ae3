-- A place of a block among the places of a store.
use Rattle.std.proofs.Common.{◌≡◌, ◌≢◌, ℕ, zero, suc, ◌+◌, ◌*◌, ◌<◌, ◌≤◌, List, [], ◌∷◌, ◌++◌, length, take, drop, set, get_or, replicate, Option, None, refl, sym, ap, ◌∙◌, subst, arith, length-set, zero-mul, suc-mul}
use Rattle.std.proofs.lemmas.List.{get_or_default, length-replicate}
use Rattle.vtl_pages.specs.Joined.{joined, HaveSizes, start_of}
use Rattle.vtl_pages.specs.Stored.{Stored, stored, block_size, block_start, next_size, spot}
use Rattle.vtl_pages.specs.Places.{IsFree, put_all}
use Rattle.vtl_pages.proofs.Joins.{joined-append, list_there, size_of, get-joined, set-joined, run-joined, sizes-set, sizes-append}
use Rattle.vtl_pages.proofs.Puts.{joined-put_all, length-put_all}

even_start : (step k : ℕ) → start_of (λ j. step) k ≡ k * step
even_start step zero = sym (zero-mul step)
even_start step (suc k) = omega (arith, suc-mul k step, even_start step k)

pub start_is : (first step k : ℕ) → start_of (block_size first step) k ≡ block_start first step k
start_is first step zero = refl
start_is first step (suc k) = ap (λ n. first + n) (even_start step k)

pub first_size : (first step k : ℕ) → k ≡ zero → first ≡ block_size first step k
first_size first step zero e = refl
first_size first step (suc k) e = absurd (omega arith)

pub later_size : (first step k : ℕ) → k ≢ zero → step ≡ block_size first step k
later_size first step zero ne = absurd (ne refl)
later_size first step (suc k) ne = refl

module _ {X : Type 0} (bs : List (List (Option X))) (first step : ℕ) (sized : HaveSizes (block_size first step) bs) where
  abbrev Sees : Stored X → Type 0
  Sees s = stored (joined bs) first step ≡ s

  at : (k o : ℕ) → start_of (block_size first step) k + o ≡ spot first step k o
  at k o = ap (λ n. n + o) (start_is first step k)

  pub block_there : (s : Stored X) → Sees s → (k o : ℕ) → spot s.first s.step k o < length s.places → k < length bs
  block_there s e = subst (λ (s : Stored X). (k o : ℕ) → spot s.first s.step k o < length s.places → k < length bs) e
      (λ k o lt. list_there (block_size first step) bs k o sized (subst (λ i. i < length (joined bs)) (sym (at k o)) lt))

  pub block_long : (s : Stored X) → Sees s → (k : ℕ) (b : List (Option X)) → k < length bs → b ≡ get_or bs k b → length b ≡ block_size s.first s.step k
  block_long s e = subst (λ (s : Stored X). (k : ℕ) (b : List (Option X)) → k < length bs → b ≡ get_or bs k b → length b ≡ block_size s.first s.step k) e
      (λ k b lt is. ap length (is ∙ get_or_default bs k b [] lt) ∙ size_of (block_size first step) bs k sized lt)

  pub same_place : (s : Stored X) → Sees s → (k o : ℕ) (b : List (Option X)) → k < length bs → o < block_size s.first s.step k → b ≡ get_or bs k b → get_or s.places (spot s.first s.step k o) None ≡ get_or b o None
  same_place s e = subst (λ (s : Stored X). (k o : ℕ) (b : List (Option X)) → k < length bs → o < block_size s.first s.step k → b ≡ get_or bs k b → get_or s.places (spot s.first s.step k o) None ≡ get_or b o None) e
      (λ k o b lt low is. ap (λ i. get_or (joined bs) i None) (sym (at k o)) ∙ get-joined (block_size first step) bs k o None sized lt low ∙ ap (λ (l : List (Option X)). get_or l o None) (sym (is ∙ get_or_default bs k b [] lt)))

  pub same_run : (s : Stored X) → Sees s → (k o n : ℕ) (b : List (Option X)) → k < length bs → o + n ≤ block_size s.first s.step k → b ≡ get_or bs k b → take n (drop (spot s.first s.step k o) s.places) ≡ take n (drop o b)
  same_run s e = subst (λ (s : Stored X). (k o n : ℕ) (b : List (Option X)) → k < length bs → o + n ≤ block_size s.first s.step k → b ≡ get_or bs k b → take n (drop (spot s.first s.step k o) s.places) ≡ take n (drop o b)) e
      (λ k o n b lt low is. ap (λ i. take n (drop i (joined bs))) (sym (at k o)) ∙ run-joined (block_size first step) bs k o n sized lt low ∙ ap (λ (l : List (Option X)). take n (drop o l)) (sym (is ∙ get_or_default bs k b [] lt)))

  pub still_sized : (s : Stored X) → Sees s → (k o : ℕ) (v : Option X) (b b' : List (Option X)) → k < length bs → b ≡ get_or bs k b → b' ≡ set b o v → HaveSizes (block_size first step) (set bs k b')
  still_sized s e k o v b b' lt is is' =
      sizes-set (block_size first step) bs k b' sized (ap length is' ∙ length-set b o v ∙ ap length (is ∙ get_or_default bs k b [] lt) ∙ size_of (block_size first step) bs k sized lt)

  pub place_set : (s : Stored X) → Sees s → (k o : ℕ) (v : Option X) (b b' : List (Option X)) → k < length bs → o < block_size s.first s.step k → b ≡ get_or bs k b → b' ≡ set b o v
      → stored (joined (set bs k b')) first step ≡ stored (set s.places (spot s.first s.step k o) v) s.first s.step
  place_set s e = subst (λ (s : Stored X). (k o : ℕ) (v : Option X) (b b' : List (Option X)) → k < length bs → o < block_size s.first s.step k → b ≡ get_or bs k b → b' ≡ set b o v
      → stored (joined (set bs k b')) first step ≡ stored (set s.places (spot s.first s.step k o) v) s.first s.step) e
      (λ k o v b b' lt low is is'. ap (λ l. stored l first step)
      (ap (λ (l : List (Option X)). joined (set bs k l)) (is' ∙ ap (λ (l : List (Option X)). set l o v) (is ∙ get_or_default bs k b [] lt))
      ∙ set-joined (block_size first step) bs k o v sized lt low ∙ ap (λ i. set (joined bs) i v) (at k o)))

  pub free_in : (s : Stored X) → Sees s → (k o n : ℕ) (b : List (Option X)) → k < length bs → o + n ≤ block_size s.first s.step k → b ≡ get_or bs k b → IsFree s.places (spot s.first s.step k o) n → IsFree b o n
  free_in s e k o n b lt fit is free j from below =
      sym (same_place s e k j b lt (omega arith) is) ∙ free (spot s.first s.step k j) (omega arith) (omega arith)

  pub all_sized : (s : Stored X) → Sees s → (k o : ℕ) (xs : List X) (b b' : List (Option X)) → k < length bs → b ≡ get_or bs k b → b' ≡ put_all b o xs → HaveSizes (block_size first step) (set bs k b')
  all_sized s e k o xs b b' lt is is' =
      sizes-set (block_size first step) bs k b' sized (ap length is' ∙ length-put_all b o xs ∙ ap length (is ∙ get_or_default bs k b [] lt) ∙ size_of (block_size first step) bs k sized lt)

  pub all_put : (s : Stored X) → Sees s → (k o : ℕ) (xs : List X) (b b' : List (Option X)) → k < length bs → o + length xs ≤ block_size s.first s.step k → b ≡ get_or bs k b → b' ≡ put_all b o xs
      → stored (joined (set bs k b')) first step ≡ stored (put_all s.places (spot s.first s.step k o) xs) s.first s.step
  all_put s e = subst (λ (s : Stored X). (k o : ℕ) (xs : List X) (b b' : List (Option X)) → k < length bs → o + length xs ≤ block_size s.first s.step k → b ≡ get_or bs k b → b' ≡ put_all b o xs
      → stored (joined (set bs k b')) first step ≡ stored (put_all s.places (spot s.first s.step k o) xs) s.first s.step) e
      (λ k o xs b b' lt fit is is'. ap (λ l. stored l first step)
      (ap (λ (l : List (Option X)). joined (set bs k l)) (is' ∙ ap (λ (l : List (Option X)). put_all l o xs) (is ∙ get_or_default bs k b [] lt))
      ∙ joined-put_all (block_size first step) bs k o xs sized lt fit ∙ ap (λ i. put_all (joined bs) i xs) (at k o)))

module _ {X : Type 0} (bs : List (List (Option X))) (first step : ℕ) (some : 0 < first) (sized : HaveSizes (block_size first step) bs) where
  -- the size of the next block, by whether one is there
  pub next_is : (bs : List (List (Option X))) → HaveSizes (block_size first step) bs → next_size (stored (joined bs) first step) ≡ block_size first step (length bs)
  next_is [] h = refl
  next_is ([] ∷ bs) h = absurd (let long = h.0 in omega arith)
  next_is ((c ∷ cs) ∷ bs) h = refl

  pub next_of : (s : Stored X) → stored (joined bs) first step ≡ s → next_size s ≡ block_size first step (length bs)
  next_of s e = ap next_size (sym e) ∙ next_is bs sized

  pub grown_sized : (cs : List (List (Option X))) (b : List (Option X)) (n : ℕ) (s : Stored X) → stored (joined bs) first step ≡ s → n ≡ next_size s → b ≡ replicate n None → cs ≡ bs ++ b ∷ [] → HaveSizes (block_size first step) cs
  grown_sized cs b n s e count is all =
      subst (HaveSizes (block_size first step)) (sym all) (sizes-append (block_size first step) bs b sized (ap length is ∙ length-replicate n None ∙ count ∙ next_of s e))

  pub grown : (cs : List (List (Option X))) (b : List (Option X)) (n : ℕ) (s : Stored X) → stored (joined bs) first step ≡ s → n ≡ next_size s → b ≡ replicate n None → cs ≡ bs ++ b ∷ []
      → stored (joined cs) first step ≡ stored (s.places ++ replicate (next_size s) None) s.first s.step
  grown cs b n s e count is all =
      ap (λ l. stored l first step) (ap joined all ∙ joined-append bs b ∙ (λ i. joined bs ++ (is ∙ ap (λ m. replicate m None) count) i))
      ∙ ap (λ (t : Stored X). stored (t.places ++ replicate (next_size s) None) t.first t.step) e

module _ {X : Type 0} where
  pub places_seen : {s t : Stored X} → s ≡ t → s.places ≡ t.places
  places_seen e = ap (λ (s : Stored X). s.places) e

  pub first_seen : {s t : Stored X} → s ≡ t → s.first ≡ t.first
  first_seen e = ap (λ (s : Stored X). s.first) e

  pub step_seen : {s t : Stored X} → s ≡ t → s.step ≡ t.step
  step_seen e = ap (λ (s : Stored X). s.step) e
