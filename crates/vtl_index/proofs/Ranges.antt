-- The numbers below a bound, as the places of a list, and those that pass a test.
use Rattle.std.proofs.Common.{◌≡◌, ℕ, zero, suc, ◌+◌, ◌<◌, ◌≤◌, Bool, true, false, cond, List, [], ◌∷◌, ◌++◌, length, map, get_or, filter, refl, sym, ap, ◌∙◌, subst, arith, inl, inr, map-id, append-nil, eqb, eq-eqb, ne_eqb}
use Rattle.std.specs.List.{range_with_len}
use Rattle.std.proofs.lemmas.Bool.{cases_eq, cases_lt}
use Rattle.std.proofs.lemmas.List.{get_or_append_left, get_or_push, length_push}
use Rattle.std.specs.Prelude.{slice_index_or}
use Rattle.std.proofs.lemmas.List.FromFn.{fill_by_all, filter_of_map_range_with_len_more, length-range_with_len}
use Rattle.std.proofs.lemmas.List.Sums.{length-filter, count_by-le-length}

-- what stands at each place of a list, in order, is the list
pub all_indexed : {X : Type 0} (xs : List X) (d : X) → map (λ i. slice_index_or xs i d) (range_with_len 0 (length xs)) ≡ xs
all_indexed xs d = sym (fill_by_all (λ i. slice_index_or xs i d) xs (length xs) d refl (λ i h. refl))

abbrev pub passing : (ℕ → Bool) → ℕ → List ℕ
passing p n = filter p (range_with_len 0 n)

one_more : (p : ℕ → Bool) (n : ℕ) → passing p (n + 1) ≡ passing p n ++ cond (p n) (n ∷ []) []
one_more p n =
    let z : 0 + n ≡ n = omega arith in
    ap (filter p) (sym (map-id (range_with_len 0 (n + 1)))) ∙ filter_of_map_range_with_len_more p (λ i. i) 0 n n z
    ∙ ap (λ l. filter p l ++ cond (p n) (n ∷ []) []) (map-id (range_with_len 0 n))

pub more_passing : (p : ℕ → Bool) (n : ℕ) → p n ≡ true → passing p (n + 1) ≡ passing p n ++ n ∷ []
more_passing p n e = one_more p n ∙ ap (λ b. passing p n ++ cond b (n ∷ []) []) e

pub same_passing : (p : ℕ → Bool) (n : ℕ) → p n ≡ false → passing p (n + 1) ≡ passing p n
same_passing p n e = one_more p n ∙ ap (λ b. passing p n ++ cond b (n ∷ []) []) e ∙ append-nil (passing p n)

-- tests that agree below the bound
pub passing_agree : (p q : ℕ → Bool) (n : ℕ) → ((i : ℕ) → i < n → p i ≡ q i) → passing p n ≡ passing q n
passing_agree p q zero h = refl
passing_agree p q (suc n) h =
    let next : suc n ≡ n + 1 = omega arith in
    ap (passing p) next ∙ one_more p n
    ∙ ap (λ l. l ++ cond (p n) (n ∷ []) []) (passing_agree p q n (λ i k. h i (omega (arith, k))))
    ∙ ap (λ b. passing q n ++ cond b (n ∷ []) []) (h n (omega arith))
    ∙ sym (ap (passing q) next ∙ one_more q n)

every_one : (xs : List ℕ) → filter (λ i. true) xs ≡ xs
every_one [] = refl
every_one (x ∷ xs) = ap (λ l. x ∷ l) (every_one xs)

no_one : (xs : List ℕ) → filter (λ i. false) xs ≡ []
no_one [] = refl
no_one (x ∷ xs) = no_one xs

pub all_pass : (p : ℕ → Bool) (n : ℕ) → ((i : ℕ) → i < n → p i ≡ true) → passing p n ≡ range_with_len 0 n
all_pass p n h = passing_agree p (λ i. true) n h ∙ every_one (range_with_len 0 n)

pub none_pass : (p : ℕ → Bool) (n : ℕ) → ((i : ℕ) → i < n → p i ≡ false) → passing p n ≡ []
none_pass p n h = passing_agree p (λ i. false) n h ∙ no_one (range_with_len 0 n)

pub few_pass : (p : ℕ → Bool) (n : ℕ) → length (passing p n) ≤ n
few_pass p n = omega (arith, length-filter p (range_with_len 0 n), count_by-le-length p (range_with_len 0 n), length-range_with_len 0 n)

pub one_passes : (n i : ℕ) → i < n → passing (λ k. eqb k i) n ≡ i ∷ []
one_passes zero i h = absurd (omega (arith, h))
one_passes (suc n) i h =
    let next : suc n ≡ n + 1 = omega arith in
    ap (passing (λ k. eqb k i)) next ∙ elim (cases_eq n i) [
      | inl same ↦
          more_passing (λ k. eqb k i) n (eq-eqb n i same)
          ∙ ap (λ l. l ++ n ∷ []) (none_pass (λ k. eqb k i) n (λ k j. ne_eqb k i (λ e. absurd (omega (arith, e, j, same)))))
          ∙ ap (λ k. k ∷ []) same
      | inr ne ↦ same_passing (λ k. eqb k i) n (ne_eqb n i ne) ∙ one_passes n i (omega (arith, h, ne))
    ]

module _ (p : ℕ → Bool) where
  -- a number that passes stands behind the smaller ones that do
  abbrev StandsIn : ℕ → List ℕ → Type 0
  StandsIn f l = (length (passing p f) < length l) × (get_or l (length (passing p f)) 0 ≡ f)

  pub passing_at : (n f : ℕ) → f < n → p f ≡ true → StandsIn f (passing p n)
  passing_at zero f h e = absurd (omega (arith, h))
  passing_at (suc n) f h e =
      let next : n + 1 ≡ suc n = omega arith in
      subst (λ k. StandsIn f (passing p k)) next (elim (cases_eq f n) [
        | inl same ↦ subst (λ k. StandsIn k (passing p (n + 1))) (sym same) (last (subst (λ k. p k ≡ true) same e))
        | inr ne ↦ kept (p n) refl (passing_at n f (omega (arith, h, ne)) e)
      ])
    where
      last : p n ≡ true → StandsIn n (passing p (n + 1))
      last t = subst (StandsIn n) (sym (more_passing p n t)) (let l = length_push (passing p n) n in omega (arith, l), get_or_push (passing p n) n 0 (length (passing p n)) refl)

      kept : (b : Bool) → p n ≡ b → StandsIn f (passing p n) → StandsIn f (passing p (n + 1))
      kept true t ih =
          subst (StandsIn f) (sym (more_passing p n t))
          (let l = length_push (passing p n) n in omega (arith, l, ih.0), get_or_append_left (passing p n) (n ∷ []) 0 (length (passing p f)) ih.0 ∙ ih.1)
      kept false t ih = subst (StandsIn f) (sym (same_passing p n t)) ih

  -- what stands there
  abbrev Passes : ℕ → ℕ → ℕ → Type 0
  Passes n g x = (x < n) × (p x ≡ true) × (length (passing p x) ≡ g)

  pub passing_is : (n g : ℕ) → g < length (passing p n) → Passes n g (get_or (passing p n) g 0)
  passing_is zero g h = absurd (omega (arith, h))
  passing_is (suc n) g h =
      let next : suc n ≡ n + 1 = omega arith in
      let within : g < length (passing p (n + 1)) = subst (λ k. g < length (passing p k)) next h in
      subst (λ k. Passes k g (get_or (passing p k) g 0)) (sym next) (go (p n) refl within (passing_is n g))
    where
      higher : (x : ℕ) → Passes n g x → Passes (n + 1) g x
      higher x ih = (omega (arith, ih.0), ih.1, ih.2)

      go : (b : Bool) → p n ≡ b → g < length (passing p (n + 1)) → (g < length (passing p n) → Passes n g (get_or (passing p n) g 0)) → Passes (n + 1) g (get_or (passing p (n + 1)) g 0)
      go true t within ih = subst (λ l. Passes (n + 1) g (get_or l g 0)) (sym (more_passing p n t)) (elim (cases_lt g (length (passing p n))) [
        | inl less ↦ subst (Passes (n + 1) g) (sym (get_or_append_left (passing p n) (n ∷ []) 0 g less)) (higher (get_or (passing p n) g 0) (ih less))
        | inr up ↦
            let l = ap length (more_passing p n t) ∙ length_push (passing p n) n in
            let at : length (passing p n) ≡ g = omega (arith, up, within, l) in
            subst (Passes (n + 1) g) (sym (get_or_push (passing p n) n 0 g at)) (omega arith, t, at)
      ])
      go false t within ih =
          subst (λ l. Passes (n + 1) g (get_or l g 0)) (sym (same_passing p n t))
          (higher (get_or (passing p n) g 0) (ih (subst (λ l. g < length l) (same_passing p n t) within)))

-- two equations that hold together
pub same_tests : (a b c d : ℕ) → (a ≡ b → c ≡ d) → (c ≡ d → a ≡ b) → eqb a b ≡ eqb c d
same_tests a b c d to back = elim (cases_eq a b) [
  | inl e ↦ eq-eqb a b e ∙ sym (eq-eqb c d (to e))
  | inr ne ↦ ne_eqb a b ne ∙ sym (ne_eqb c d (λ e. ne (back e)))
]
