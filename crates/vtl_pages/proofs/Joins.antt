-- Lists of known lengths, one after another: where an item of one stands among all.
use Rattle.std.proofs.Common.{◌≡◌, ℕ, zero, suc, ◌+◌, ◌-◌, ◌<◌, ◌≤◌, List, [], ◌∷◌, ◌++◌, length, take, drop, set, get_or, refl, sym, ap, ◌∙◌, arith, length-append, length-drop, drop-drop, append_assoc, append-nil}
use Rattle.std.proofs.lemmas.List.{get_or_append_left, get_or-append-add, set-append_left, set-append_right, drop-append-le, take-append-le, drop_at}
use Rattle.vtl_pages.specs.Joined.{joined, HaveSizes, start_of}

module _ {Y : Type 0} where
  pub length-joined : (sizes : ℕ → ℕ) (bs : List (List Y)) → HaveSizes sizes bs → length (joined bs) ≡ start_of sizes (length bs)
  length-joined sizes [] h = refl
  length-joined sizes (b ∷ bs) h = let long = h.0 in omega (arith, length-append b (joined bs), length-joined (λ k. sizes (suc k)) bs h.1)

  pub joined-append : (bs : List (List Y)) (b : List Y) → joined (bs ++ b ∷ []) ≡ joined bs ++ b
  joined-append [] b = append-nil b
  joined-append (d ∷ bs) b = ap (λ l. d ++ l) (joined-append bs b) ∙ sym (append_assoc d (joined bs) b)

  -- an item that stands among all stands in a list that is there
  pub list_there : (sizes : ℕ → ℕ) (bs : List (List Y)) (k o : ℕ) → HaveSizes sizes bs → start_of sizes k + o < length (joined bs) → k < length bs
  list_there sizes [] k o h lt = absurd (omega arith)
  list_there sizes (b ∷ bs) zero o h lt = omega arith
  list_there sizes (b ∷ bs) (suc k) o h lt =
      let long = h.0 in let rest : start_of (λ j. sizes (suc j)) k + o < length (joined bs) = omega (arith, length-append b (joined bs)) in
      omega (arith, list_there (λ j. sizes (suc j)) bs k o h.1 rest)

  pub size_of : (sizes : ℕ → ℕ) (bs : List (List Y)) (k : ℕ) → HaveSizes sizes bs → k < length bs → length (get_or bs k []) ≡ sizes k
  size_of sizes [] k h lt = absurd (omega arith)
  size_of sizes (b ∷ bs) zero h lt = h.0
  size_of sizes (b ∷ bs) (suc k) h lt = size_of (λ j. sizes (suc j)) bs k h.1 (omega arith)

  pub get-joined : (sizes : ℕ → ℕ) (bs : List (List Y)) (k o : ℕ) (d : Y) → HaveSizes sizes bs → k < length bs → o < sizes k → get_or (joined bs) (start_of sizes k + o) d ≡ get_or (get_or bs k []) o d
  get-joined sizes [] k o d h lt low = absurd (omega arith)
  get-joined sizes (b ∷ bs) zero o d h lt low = let long = h.0 in let at : zero + o ≡ o = omega arith in ap (λ i. get_or (b ++ joined bs) i d) at ∙ get_or_append_left b (joined bs) d o (omega arith)
  get-joined sizes (b ∷ bs) (suc k) o d h lt low =
      let on = start_of (λ j. sizes (suc j)) k + o in let at : start_of sizes (suc k) + o ≡ length b + on = (let long = h.0 in omega arith) in
      ap (λ i. get_or (b ++ joined bs) i d) at ∙ get_or-append-add b (joined bs) on d ∙ get-joined (λ j. sizes (suc j)) bs k o d h.1 (omega arith) low

  pub set-joined : (sizes : ℕ → ℕ) (bs : List (List Y)) (k o : ℕ) (v : Y) → HaveSizes sizes bs → k < length bs → o < sizes k → joined (set bs k (set (get_or bs k []) o v)) ≡ set (joined bs) (start_of sizes k + o) v
  set-joined sizes [] k o v h lt low = absurd (omega arith)
  set-joined sizes (b ∷ bs) zero o v h lt low = let long = h.0 in let at : zero + o ≡ o = omega arith in sym (ap (λ i. set (b ++ joined bs) i v) at ∙ set-append_left b (joined bs) o v (omega arith))
  set-joined sizes (b ∷ bs) (suc k) o v h lt low =
      let long = h.0 in let n = sizes zero in let on = start_of (λ j. sizes (suc j)) k + o in let at : start_of sizes (suc k) + o - n ≡ on = omega arith in
      ap (λ l. b ++ l) (set-joined (λ j. sizes (suc j)) bs k o v h.1 (omega arith) low ∙ ap (λ i. set (joined bs) i v) (sym at))
      ∙ sym (set-append_right b (joined bs) n (start_of sizes (suc k) + o) v long (omega arith))

  pub run-joined : (sizes : ℕ → ℕ) (bs : List (List Y)) (k o n : ℕ) → HaveSizes sizes bs → k < length bs → o + n ≤ sizes k → take n (drop (start_of sizes k + o) (joined bs)) ≡ take n (drop o (get_or bs k []))
  run-joined sizes [] k o n h lt low = absurd (omega arith)
  run-joined sizes (b ∷ bs) zero o n h lt low =
      let long = h.0 in let at : zero + o ≡ o = omega arith in ap (λ i. take n (drop i (b ++ joined bs))) at ∙ ap (take n) (drop-append-le o b (joined bs) (omega arith)) ∙ take-append-le n (drop o b) (joined bs) (omega (arith, length-drop o b))
  run-joined sizes (b ∷ bs) (suc k) o n h lt low =
      let c = sizes zero in let on = start_of (λ j. sizes (suc j)) k + o in let at : start_of sizes (suc k) + o ≡ c + on = omega arith in
      ap (λ i. take n (drop i (b ++ joined bs))) at ∙ ap (take n) (sym (drop-drop on c (b ++ joined bs))) ∙ ap (λ l. take n (drop on l)) (drop_at b (joined bs) c h.0)
      ∙ run-joined (λ j. sizes (suc j)) bs k o n h.1 (omega arith) low

  pub sizes-set : (sizes : ℕ → ℕ) (bs : List (List Y)) (k : ℕ) (b : List Y) → HaveSizes sizes bs → length b ≡ sizes k → HaveSizes sizes (set bs k b)
  sizes-set sizes [] k b h e = tt
  sizes-set sizes (d ∷ bs) zero b h e = (e, h.1)
  sizes-set sizes (d ∷ bs) (suc k) b h e = (h.0, sizes-set (λ j. sizes (suc j)) bs k b h.1 e)

  pub sizes-append : (sizes : ℕ → ℕ) (bs : List (List Y)) (b : List Y) → HaveSizes sizes bs → length b ≡ sizes (length bs) → HaveSizes sizes (bs ++ b ∷ [])
  sizes-append sizes [] b h e = (e, tt)
  sizes-append sizes (d ∷ bs) b h e = (h.0, sizes-append (λ j. sizes (suc j)) bs b h.1 e)

  pub sizes-front : (sizes : ℕ → ℕ) (bs : List (List Y)) (b : List Y) → HaveSizes sizes (bs ++ b ∷ []) → HaveSizes sizes bs × (length b ≡ sizes (length bs))
  sizes-front sizes [] b h = (tt, h.0)
  sizes-front sizes (d ∷ bs) b h = let rest = sizes-front (λ j. sizes (suc j)) bs b h.1 in ((h.0, rest.0), rest.1)
