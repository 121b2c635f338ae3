-- Values are put into places side by side, from the last one on.
use Rattle.std.proofs.Common.{◌≡◌, ℕ, suc, ◌+◌, ◌<◌, ◌≤◌, List, [], ◌∷◌, ◌++◌, length, set, get_or, Option, Some, None, refl, sym, ap, ◌∙◌, subst, arith, length-append, length-set, append_assoc, append-nil, get_or-set_other}
use Rattle.std.proofs.lemmas.List.{get_or-set_same, set-get_or, set-set, set_comm}
use Rattle.vtl_pages.specs.Joined.{joined, HaveSizes, start_of}
use Rattle.vtl_pages.specs.Places.{put_all}
use Rattle.vtl_pages.proofs.Joins.{set-joined, sizes-set, size_of}

module _ {X : Type 0} where
  pub length-put_all : (cs : List (Option X)) (i : ℕ) (xs : List X) → length (put_all cs i xs) ≡ length cs
  length-put_all cs i [] = refl
  length-put_all cs i (x ∷ xs) = length-set (put_all cs (suc i) xs) i (Some x) ∙ length-put_all cs (suc i) xs

  pub get-put_all : (cs : List (Option X)) (i j : ℕ) (xs : List X) → j < i → get_or (put_all cs i xs) j None ≡ get_or cs j None
  get-put_all cs i j [] lt = refl
  get-put_all cs i j (x ∷ xs) lt = get_or-set_other (put_all cs (suc i) xs) i j (Some x) None (λ e. absurd (omega arith)) ∙ get-put_all cs (suc i) j xs (omega arith)

  pub set-put_all : (cs : List (Option X)) (i j : ℕ) (c : Option X) (xs : List X) → i < j → set (put_all cs j xs) i c ≡ put_all (set cs i c) j xs
  set-put_all cs i j c [] lt = refl
  set-put_all cs i j c (x ∷ xs) lt =
      set_comm (put_all cs (suc j) xs) j i (Some x) c (λ e. absurd (omega arith)) ∙ ap (λ l. set l j (Some x)) (set-put_all cs i (suc j) c xs (omega arith))

  -- some values of a list are left, and the others are put where they belong
  abbrev pub IsPutFrom : List (Option X) → List (Option X) → ℕ → List X → List X → Type 0
  IsPutFrom old now from all left = (zs : List X) × (all ≡ left ++ zs) × (now ≡ put_all old (from + length left) zs)

  pub put_none : (old : List (Option X)) (from : ℕ) (all : List X) → IsPutFrom old old from all all
  put_none old from all = ([], sym (append-nil all), refl)

  pub put_next : (old now next : List (Option X)) (from n : ℕ) (all left ys : List X) (v : X) → IsPutFrom old now from all left → left ≡ ys ++ v ∷ [] → n ≡ length ys → next ≡ set now (from + n) (Some v) → IsPutFrom old next from all ys
  put_next old now next from n all left ys v h e count is =
      let long : from + length left ≡ suc (from + length ys) = omega (arith, ap length e, length-append ys (v ∷ [])) in
      (v ∷ h.0, h.1 ∙ ap (λ l. l ++ h.0) e ∙ append_assoc ys (v ∷ []) h.0, is ∙ (λ i. set ((h.2 ∙ ap (λ k. put_all old k h.0) long) i) (from + count i) (Some v)))

  pub put_over : (old now : List (Option X)) (from : ℕ) (all left : List X) → IsPutFrom old now from all left → left ≡ [] → now ≡ put_all old from all
  put_over old now from all left h e =
      let none : from + length left ≡ from = omega (arith, ap length e) in let whole : all ≡ h.0 = h.1 ∙ ap (λ l. l ++ h.0) e in
      h.2 ∙ ap (λ k. put_all old k h.0) none ∙ ap (λ l. put_all old from l) (sym whole)

  pub next_there : (old now : List (Option X)) (from n : ℕ) (all left ys : List X) (v : X) → IsPutFrom old now from all left → left ≡ ys ++ v ∷ [] → n ≡ length ys → from + length all ≤ length old → from + n < length now
  next_there old now from n all left ys v h e count le =
      let long = ap length h.2 ∙ length-put_all old (from + length left) h.0 in
      omega (arith, ap length e, length-append ys (v ∷ []), ap length h.1, length-append left h.0)

  pub next_free : (old now : List (Option X)) (from n : ℕ) (all left ys : List X) (v : X) → IsPutFrom old now from all left → left ≡ ys ++ v ∷ [] → n ≡ length ys → ((j : ℕ) → from ≤ j → j < from + length all → get_or old j None ≡ None)
      → get_or now (from + n) None ≡ None
  next_free old now from n all left ys v h e count free =
      let shorter : n < length left = omega (arith, ap length e, length-append ys (v ∷ [])) in
      ap (λ l. get_or l (from + n) None) h.2 ∙ get-put_all old (from + length left) (from + n) h.0 (omega arith) ∙ free (from + n) (omega arith) (omega (arith, ap length h.1, length-append left h.0))

  -- values are put into one of some lists
  pub joined-put_all : (sizes : ℕ → ℕ) (bs : List (List (Option X))) (k o : ℕ) (xs : List X) → HaveSizes sizes bs → k < length bs → o + length xs ≤ sizes k
      → joined (set bs k (put_all (get_or bs k []) o xs)) ≡ put_all (joined bs) (start_of sizes k + o) xs
  joined-put_all sizes bs k o [] h lt fit = ap joined (set-get_or bs k [])
  joined-put_all sizes bs k o (x ∷ xs) h lt fit =
      let b = put_all (get_or bs k []) (suc o) xs in let ds = set bs k b in
      let long : length b ≡ sizes k = length-put_all (get_or bs k []) (suc o) xs ∙ size_of sizes bs k h lt in
      let there : k < length ds = subst (λ n. k < n) (sym (length-set bs k b)) lt in
      let same : get_or ds k [] ≡ b = get_or-set_same bs k b [] lt in
      let next : start_of sizes k + suc o ≡ suc (start_of sizes k + o) = omega arith in
      ap joined (sym (set-set bs k b (set b o (Some x))) ∙ ap (λ (l : List (Option X)). set ds k (set l o (Some x))) (sym same))
      ∙ set-joined sizes ds k o (Some x) (sizes-set sizes bs k b h long) there (omega arith)
      ∙ ap (λ l. set l (start_of sizes k + o) (Some x)) (joined-put_all sizes bs k (suc o) xs h lt (omega arith) ∙ ap (λ n. put_all (joined bs) n xs) next)
