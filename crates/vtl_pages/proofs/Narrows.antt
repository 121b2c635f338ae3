-- Items at rising places of a run are kept, and so of each run.
use Rattle.std.proofs.Common.{◌≡◌, ◌≢◌, ℕ, zero, suc, ◌+◌, ◌*◌, ◌/◌, ◌%◌, ◌<◌, ◌≤◌, inl, inr, List, [], ◌∷◌, ◌++◌, All, length, take, drop, get_or, refl, sym, ap, ◌∙◌, subst, arith, get_or-take, get_or-drop, length-append, drop-drop, length-drop, zero-mul, suc-mul}
use Rattle.std.proofs.lemmas.Bool.{cases_lt}
use Rattle.std.proofs.lemmas.List.{flat_map_more, map_more}
use Rattle.std.proofs.lemmas.Nat.{div-add-mod', div-mul-add, row_fits}
use Rattle.std.specs.List.{flat_map}
use Rattle.vtl_pages.specs.Chosen.{AreRising, items_at, runs}
use Rattle.vtl_pages.specs.Ordered.{run_of}

-- no place from the k-th on is below a bound
abbrev pub NotBelow : List ℕ → ℕ → ℕ → Type 0
NotBelow places k bound = k < length places → bound ≤ get_or places k 0

module _ {X : Type 0} where
  -- the first k places are those below a bound, and what stands there is kept
  pub record IsKept (places : List ℕ) (width : ℕ) (all left kept : List X) (place next : ℕ) : Type 0 where
    pub rest : left ≡ drop place all
    pub within : next ≤ length places
    pub ahead : NotBelow places next place
    pub count : length kept ≡ next
    pub same : (d : X) → kept ≡ items_at d (take next places) (take width all)

  pub kept_none : (places : List ℕ) (width : ℕ) (all kept : List X) → kept ≡ [] → IsKept places width all all kept 0 0
  kept_none places width all kept e = record { rest = refl; within = omega arith; ahead = λ lt. omega arith; count = ap length e; same = λ d. e }

  module _ (places : List ℕ) (width : ℕ) (all left kept : List X) (place next : ℕ) (h : IsKept places width all left kept place next) (fit : width ≤ length all) (low : place < width) where
    pub some_left : 0 < length left
    some_left = omega (arith, ap length h.rest, length-drop place all)

    module _ (x : X) (others : List X) (e : left ≡ x ∷ others) where
      others_is : others ≡ drop (place + 1) all
      others_is = ap (drop 1) (sym e ∙ h.rest) ∙ drop-drop 1 place all

      item_is : (d : X) → x ≡ get_or (take width all) place d
      item_is d =
          let none : place + 0 ≡ place = omega arith in
          ap (λ l. get_or l 0 d) (sym e ∙ h.rest) ∙ get_or-drop place all 0 d ∙ ap (λ i. get_or all i d) none ∙ sym (get_or-take width all place d low)

      -- the item stands at the next of the places
      pub kept_more : (now : List X) (after : ℕ) → AreRising places → next < length places → get_or places next 0 ≡ place → now ≡ kept ++ x ∷ [] → after ≡ next + 1 → IsKept places width all others now (place + 1) after
      kept_more now after rising more at is one = subst (IsKept places width all others now (place + 1)) (sym one) record {
        rest = others_is;
        within = omega arith;
        ahead = λ lt. let up = rising next lt in omega arith;
        count = omega (arith, ap length is, length-append kept (x ∷ []), h.count);
        same = λ d. is ∙ (λ i. h.same d i ++ item_is d i ∷ []) ∙ ap (λ k. items_at d (take next places) (take width all) ++ get_or (take width all) k d ∷ []) (sym at)
            ∙ sym (map_more (λ k. get_or (take width all) k d) places next 0 more);
      }

      -- it stands at none of them
      pub kept_same : (now : List X) (after : ℕ) → (next < length places → get_or places next 0 ≢ place) → now ≡ kept → after ≡ next → IsKept places width all others now (place + 1) after
      kept_same now after other is same = subst (IsKept places width all others now (place + 1)) (sym same) record {
        rest = others_is;
        within = h.within;
        ahead = λ lt. let least = h.ahead lt in let ne = other lt in omega arith;
        count = ap length is ∙ h.count;
        same = λ d. is ∙ h.same d;
      }

  -- the whole run is gone through, so each place was met
  pub all_met : (places : List ℕ) (width : ℕ) (all left kept : List X) (place next : ℕ) → IsKept places width all left kept place next → width ≤ place → All (λ i. i < width) places → next ≡ length places
  all_met places width all left kept place next h past within = elim (cases_lt next (length places)) [
    | inl more ↦ absurd (let least = h.ahead more in let most = within next 0 more in omega arith)
    | inr over ↦ (let most = h.within in omega arith)
  ]

  -- ---- run by run
  pub runs_more : (width n : ℕ) (xs : List X) → runs width (n + 1) xs ≡ runs width n xs ++ run_of width xs n ∷ []
  runs_more width zero xs = ap (λ k. take width (drop k xs) ∷ []) (sym (zero-mul width))
  runs_more width (suc n) xs =
      let turned : width + n * width ≡ suc n * width = omega (arith, suc-mul n width) in
      let one : suc n + 1 ≡ suc (n + 1) = omega arith in
      ap (λ k. runs width k xs) one ∙ ap (λ l. take width xs ∷ l) (runs_more width n (drop width xs))
      ∙ ap (λ l. take width xs ∷ runs width n (drop width xs) ++ take width l ∷ []) (drop-drop (n * width) width xs ∙ ap (λ k. drop k xs) turned)

  pub narrowed_more : (d : X) (places : List ℕ) (width n : ℕ) (xs : List X) → flat_map (items_at d places) (runs width n xs) ++ items_at d places (run_of width xs n) ≡ flat_map (items_at d places) (runs width (n + 1) xs)
  narrowed_more d places width n xs =
      flat_map_more (items_at d places) [] (runs width n xs) (run_of width xs n) ∙ ap (flat_map (items_at d places)) (sym (runs_more width n xs))

  -- the items of the first n runs are kept
  pub record IsNarrowed (places : List ℕ) (width : ℕ) (xs left now : List X) (n : ℕ) : Type 0 where
    pub rest : left ≡ drop (n * width) xs
    pub count : length now ≡ n * length places
    pub same : (d : X) → now ≡ flat_map (items_at d places) (runs width n xs)

  pub narrowed_none : (places : List ℕ) (width : ℕ) (xs left now : List X) → left ≡ xs → now ≡ [] → IsNarrowed places width xs left now 0
  narrowed_none places width xs left now all e = record {
    rest = all ∙ ap (λ k. drop k xs) (sym (zero-mul width));
    count = ap length e ∙ sym (zero-mul (length places));
    same = λ d. e;
  }

  module _ (places : List ℕ) (width : ℕ) (xs left now : List X) (n : ℕ) (h : IsNarrowed places width xs left now n) where
    pub run_left : length xs % width ≡ 0 → n < length xs / width → width ≤ length left
    run_left whole more =
        let cut = div-add-mod' (length xs) width in let row = row_fits n width (length xs / width) width more (omega arith) in
        omega (arith, ap length h.rest, length-drop (n * width) xs)

    pub next_run : (left' now' run : List X) → left' ≡ drop width left → length run ≡ length places → ((d : X) → run ≡ items_at d places (take width left)) → now' ≡ now ++ run → IsNarrowed places width xs left' now' (n + 1)
    next_run left' now' run rest count same is =
        let next : n * width + width ≡ (n + 1) * width = omega arith in let more : n * length places + length places ≡ (n + 1) * length places = omega arith in
        record {
          rest = rest ∙ ap (drop width) h.rest ∙ drop-drop width (n * width) xs ∙ ap (λ k. drop k xs) next;
          count = omega (arith, ap length is, length-append now run, h.count);
          same = λ d. is ∙ (λ i. h.same d i ++ (same d ∙ ap (λ l. items_at d places (take width l)) h.rest) i) ∙ narrowed_more d places width n xs;
        }

  -- all runs are narrowed, however many one says there are
  pub narrowed_all : (places : List ℕ) (width : ℕ) (xs left now : List X) (n : ℕ) (h : IsNarrowed places width xs left now n) → 0 < width → n ≡ length xs / width → (d : X) (m : ℕ) → length xs ≡ m * width → now ≡ flat_map (items_at d places) (runs width m xs)
  narrowed_all places width xs left now n h some over d m long =
      let zero_more : m * width + 0 ≡ length xs = omega arith in
      let same : n ≡ m = over ∙ ap (λ k. k / width) (sym zero_more) ∙ div-mul-add m width 0 some in
      h.same d ∙ ap (λ k. flat_map (items_at d places) (runs width k xs)) same
