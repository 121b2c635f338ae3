-- Rules have an order exactly where no item depends on itself: where no rule is ready, a walk from an item to one that it awaits meets an item
-- twice.
use Rattle.std.proofs.Common.{◌≡◌, ◌⊎◌, inl, inr, ℕ, zero, suc, ◌+◌, ◌<◌, ◌≤◌, Bool, true, false, not, ◌&&◌, cond, List, [], ◌∷◌, ◌++◌, map, length, Option, Some, None, refl, sym, ap, subst, ◌∙◌, arith}
use Rattle.std.specs.Prelude.{slice_get, nat_eq, filter}
use Rattle.std.specs.List.{enumerate_from, find, list_all, list_any}
use Rattle.std.specs.Cmp.Lexicographic.{bytes_decides, nat_list_eq_equiv}
use Rattle.std.proofs.lemmas.Bool.{and_from, and_parts, eqb-true, not-false, or_cases, or_left, or_right}
use Rattle.vtl_lists.specs.Options.{given}
use Rattle.vtl_syntax.specs.declared.statements.HierRule.{HierRule}
use Rattle.vtl_tree.specs.Structure.{same_name}
use Rattle.check_rules.specs.Found.{Has}
use Rattle.check_rules.specs.Order.{DependsOn, IsMadeOf, Placed, directly, is_awaited, is_left, is_ready, left_behind, next_behind, order_behind, order_of, through}
use Rattle.check_rules.specs.RuleItems.{defines}
use Rattle.vtl_tree.specs.RuleItems.{is_equation, left_item, right_items}
use Rattle.vtl_tree.proofs.NotNullLemmas.{same_itself}
use Rattle.check_rules.specs.Running.{number}
use Rattle.check_rules.proofs.Counts.{one_less, place_is}
use Rattle.check_rules.proofs.Lists.{all_fails, any_at, one_fails, one_passes}
use Rattle.check_rules.proofs.Runs.{one_rule, rule_at, still_left}

-- ---- names
same-true : (a b : List ℕ) → same_name a b ≡ true → a ≡ b
same-true a b e = (bytes_decides a b).0 e

never : false ≡ true → ⊥
never e = cc

-- ---- lists
module _ {X : Type 0} where
  pub kept_at : (test : X → Bool) (xs : List X) (k : ℕ) (x : X) → slice_get (filter test xs) k ≡ Some x → (j : ℕ) × (slice_get xs j ≡ Some x) × (test x ≡ true)
  kept_at test [] k x e = cc
  kept_at test (y ∷ ys) k x e = go (test y) refl k e (λ m. kept_at test ys m x)
    where
      later : (j : ℕ) × (slice_get ys j ≡ Some x) × (test x ≡ true) → (j : ℕ) × (slice_get (y ∷ ys) j ≡ Some x) × (test x ≡ true)
      later f = (suc f.0, f.1, f.2)

      go : (b : Bool) → test y ≡ b → (k : ℕ) → slice_get (cond b (y ∷ filter test ys) (filter test ys)) k ≡ Some x
          → ((m : ℕ) → slice_get (filter test ys) m ≡ Some x → (j : ℕ) × (slice_get ys j ≡ Some x) × (test x ≡ true)) → (j : ℕ) × (slice_get (y ∷ ys) j ≡ Some x) × (test x ≡ true)
      go true t zero e ih = let same : y ≡ x = cc in (zero, e, ap test (sym same) ∙ t)
      go true t (suc k) e ih = later (ih k e)
      go false t k e ih = later (ih k e)

  pub kept_there : (test : X → Bool) (xs : List X) (j : ℕ) (x : X) → slice_get xs j ≡ Some x → test x ≡ true → (k : ℕ) × (slice_get (filter test xs) k ≡ Some x)
  kept_there test [] j x e t = cc
  kept_there test (y ∷ ys) zero x e t = let same : y ≡ x = cc in (zero, ap (λ b. slice_get (cond b (y ∷ filter test ys) (filter test ys)) zero) (ap test same ∙ t) ∙ ap Some same)
  kept_there test (y ∷ ys) (suc j) x e t = go (test y) (kept_there test ys j x e t)
    where
      go : (b : Bool) → (k : ℕ) × (slice_get (filter test ys) k ≡ Some x) → (k : ℕ) × (slice_get (cond b (y ∷ filter test ys) (filter test ys)) k ≡ Some x)
      go true f = (suc f.0, f.1)
      go false f = f

  pub found_is : (test : X → Bool) (xs : List X) (x : X) → find test xs ≡ Some x → (k : ℕ) × (slice_get xs k ≡ Some x) × (test x ≡ true)
  found_is test [] x e = cc
  found_is test (y ∷ ys) x e = go (test y) refl (found_is test ys x) e
    where
      go : (b : Bool) → test y ≡ b → (find test ys ≡ Some x → (k : ℕ) × (slice_get ys k ≡ Some x) × (test x ≡ true)) → cond b (Some y) (find test ys) ≡ Some x → (k : ℕ) × (slice_get (y ∷ ys) k ≡ Some x) × (test x ≡ true)
      go true t ih e = let same : y ≡ x = cc in (zero, e, ap test (sym same) ∙ t)
      go false t ih e = let f = ih e in (suc f.0, f.1, f.2)

  pub none_found : (test : X → Bool) (xs : List X) (k : ℕ) (x : X) → find test xs ≡ None → slice_get xs k ≡ Some x → test x ≡ false
  none_found test [] k x e at = cc
  none_found test (y ∷ ys) k x e at = go (test y) refl k e at (λ j. none_found test ys j x)
    where
      go : (b : Bool) → test y ≡ b → (k : ℕ) → cond b (Some y) (find test ys) ≡ None → slice_get (y ∷ ys) k ≡ Some x → ((j : ℕ) → find test ys ≡ None → slice_get ys j ≡ Some x → test x ≡ false) → test x ≡ false
      go true t k e at ih = cc
      go false t zero e at ih = let same : y ≡ x = cc in ap test (sym same) ∙ t
      go false t (suc k) e at ih = ih k e at

  number_kept : (test : X → Bool) (xs : List X) → length (filter test xs) ≡ number (λ x. test x && true) xs
  number_kept test [] = refl
  number_kept test (y ∷ ys) = go (test y) (number_kept test ys)
    where
      go : (b : Bool) → length (filter test ys) ≡ number (λ x. test x && true) ys → length (cond b (y ∷ filter test ys) (filter test ys)) ≡ cond (b && true) (suc (number (λ x. test x && true) ys)) (number (λ x. test x && true) ys)
      go true h = ap suc h
      go false h = h

  first_of : (xs : List X) → 0 < length xs → (x : X) × (slice_get xs 0 ≡ Some x)
  first_of [] h = absurd (omega (arith, h))
  first_of (x ∷ xs) h = (x, refl)

  some_there : (xs : List X) (k : ℕ) (x : X) → slice_get xs k ≡ Some x → 0 < length xs
  some_there [] k x e = cc
  some_there (y ∷ ys) k x e = omega arith

  shorter : (test : X → Bool) (xs : List X) → list_all test xs ≡ false → length (filter test xs) < length xs
  shorter test [] e = cc
  shorter test (y ∷ ys) e = go (test y) e (shorter test ys) (no_longer ys)
    where
      no_longer : (zs : List X) → length (filter test zs) ≤ length zs
      no_longer [] = omega arith
      no_longer (z ∷ zs) = step (test z) (no_longer zs)
        where
          step : (b : Bool) → length (filter test zs) ≤ length zs → length (cond b (z ∷ filter test zs) (filter test zs)) ≤ suc (length zs)
          step true h = omega (arith, h)
          step false h = omega (arith, h)

      go : (b : Bool) → (b && list_all test ys) ≡ false → (list_all test ys ≡ false → length (filter test ys) < length ys) → length (filter test ys) ≤ length ys → length (cond b (y ∷ filter test ys) (filter test ys)) < suc (length ys)
      go true e ih le = let h = ih e in omega (arith, h)
      go false e ih le = omega (arith, le)

-- ---- dependence
module _ (rules : List HierRule) where
  pub then_on : (a b c : List ℕ) → DependsOn rules a b → IsMadeOf rules b c → DependsOn rules a c
  then_on a b c (directly a' b' m) n = through a' b' c m (directly b' c n)
  then_on a b c (through a' p b' m d) n = through a' p c m (then_on p b' c d n)

  pub one_less_left : (done : List ℕ) (x : Placed) → next_behind rules done ≡ Some x → length (left_behind rules done) ≡ suc (length (left_behind rules (done ++ x.0 ∷ [])))
  one_less_left done x e =
      let f = found_is (is_ready (left_behind rules done)) (left_behind rules done) x e in
      let g = kept_at (is_left done) (enumerate_from 0 rules) f.0 x f.1 in
      let at = place_is 0 rules g.0 x g.1 in
      let here : g.0 ≡ x.0 = omega (arith, at.0) in
      let there : slice_get rules x.0 ≡ Some x.1 = ap (slice_get rules) (sym here) ∙ at.1 in
      let start : x.0 ≡ 0 + x.0 = omega arith in
      let same : (λ (y : Placed). cond (nat_eq y.0 x.0) false (is_left done y) && true) ≡ (λ (y : Placed). is_left (done ++ x.0 ∷ []) y && true) = λ k y. sym (still_left rules done x.0 y) k && true in
      let less = one_less (is_left done) (λ (y : Placed). true) x.0 0 x.0 rules x.1 start there in
      number_kept (is_left done) (enumerate_from 0 rules) ∙ less
      ∙ ap (λ (f : Placed → Bool). cond (is_left done x && true) (suc (number f (enumerate_from 0 rules))) (number f (enumerate_from 0 rules))) same
      ∙ ap (λ b. cond (b && true) (suc (number (λ y. is_left (done ++ x.0 ∷ []) y && true) (enumerate_from 0 rules))) (number (λ y. is_left (done ++ x.0 ∷ []) y && true) (enumerate_from 0 rules))) g.2
      ∙ ap suc (sym (number_kept (is_left (done ++ x.0 ∷ [])) (enumerate_from 0 rules)))

  -- ---- where no rule is ready
  stuck_at : (n : ℕ) (done : List ℕ) → length (left_behind rules done) ≡ n → order_behind n rules done ≡ None → (d : List ℕ) × (next_behind rules d ≡ None) × (0 < length (left_behind rules d))
  stuck_at zero done many e = cc
  stuck_at (suc n) done many e = go (next_behind rules done) refl (λ d m h. stuck_at n d m h) e
    where
      go : (o : Option Placed) → next_behind rules done ≡ o → ((d : List ℕ) → length (left_behind rules d) ≡ n → order_behind n rules d ≡ None → (d : List ℕ) × (next_behind rules d ≡ None) × (0 < length (left_behind rules d)))
          → given o (λ x. order_behind n rules (done ++ x.0 ∷ [])) None ≡ None → (d : List ℕ) × (next_behind rules d ≡ None) × (0 < length (left_behind rules d))
      go None is ih e = (done, is, omega (arith, many))
      go (Some x) is ih e = let less = one_less_left done x is in ih (done ++ x.0 ∷ []) (omega (arith, less, many)) e

  module _ (done : List ℕ) (stuck : next_behind rules done ≡ None) where
    -- an item that is awaited is made of one that is awaited
    awaits : (y : List ℕ) → is_awaited (left_behind rules done) y ≡ true → (z : List ℕ) × IsMadeOf rules y z × (is_awaited (left_behind rules done) z ≡ true)
    awaits y h =
        let f = one_passes (λ x. defines y x.1) (left_behind rules done) h in
        let g = kept_at (is_left done) (enumerate_from 0 rules) f.0 f.1 f.2 in
        let at = place_is 0 rules g.0 f.1 g.1 in
        let waits = none_found (is_ready (left_behind rules done)) (left_behind rules done) f.0 f.1 stuck f.2 in
        let z = one_fails (λ item. not (is_awaited (left_behind rules done) item)) (right_items f.1.1) waits in
        (z.1, (g.0, f.1.1, at.1, f.3, any_at (same_name z.1) (right_items f.1.1) z.0 z.1 z.2 (same_itself z.1)), not-false (is_awaited (left_behind rules done) z.1) z.3)

    -- the items that are awaited are among the items that are computed
    is_computed : (y : List ℕ) → is_awaited (left_behind rules done) y ≡ true → Has (map (λ x. left_item x.1) (left_behind rules done)) y
    is_computed y h = go (left_behind rules done) h
      where
        go : (xs : List Placed) → list_any (λ x. defines y x.1) xs ≡ true → list_any (same_name y) (map (λ x. left_item x.1) xs) ≡ true
        go [] e = cc
        go (x ∷ xs) e = pick (or_cases (defines y x.1) (list_any (λ z. defines y z.1) xs) e) (go xs)
          where
            pick : (defines y x.1 ≡ true) ⊎ (list_any (λ z. defines y z.1) xs ≡ true) → (list_any (λ z. defines y z.1) xs ≡ true → list_any (same_name y) (map (λ z. left_item z.1) xs) ≡ true) → list_any (same_name y) (map (λ z. left_item z.1) (x ∷ xs)) ≡ true
            pick (inl d) ih = or_left (same_name y (left_item x.1)) (list_any (same_name y) (map (λ z. left_item z.1) xs)) (and_parts (is_equation x.1) (same_name y (left_item x.1)) d).1
            pick (inr d) ih = or_right (same_name y (left_item x.1)) (list_any (same_name y) (map (λ z. left_item z.1) xs)) (ih d)

    met_again : (seen : List (List ℕ)) (y z : List ℕ) → ((s : List ℕ) → Has seen s → DependsOn rules s y ⊎ (s ≡ y)) → IsMadeOf rules y z → Has seen z → (item : List ℕ) × DependsOn rules item item
    met_again seen y z leads made there = go (leads z there)
      where
        go : DependsOn rules z y ⊎ (z ≡ y) → (item : List ℕ) × DependsOn rules item item
        go (inl d) = (z, then_on z y z d made)
        go (inr same) = (z, subst (λ (t : List ℕ). DependsOn rules t z) (sym same) (directly y z made))

    lead_on : (seen : List (List ℕ)) (y z : List ℕ) → ((s : List ℕ) → Has seen s → DependsOn rules s y ⊎ (s ≡ y)) → IsMadeOf rules y z → (s : List ℕ) → Has (z ∷ seen) s → DependsOn rules s z ⊎ (s ≡ z)
    lead_on seen y z leads made s h = go (or_cases (same_name s z) (list_any (same_name s) seen) h)
      where
        more : DependsOn rules s y ⊎ (s ≡ y) → DependsOn rules s z ⊎ (s ≡ z)
        more (inl d) = inl (then_on s y z d made)
        more (inr same) = inl (subst (λ (t : List ℕ). DependsOn rules t z) (sym same) (directly y z made))

        go : (same_name s z ≡ true) ⊎ (list_any (same_name s) seen ≡ true) → DependsOn rules s z ⊎ (s ≡ z)
        go (inl e) = inr (same-true s z e)
        go (inr e) = more (leads s e)

    still_covers : (seen unseen : List (List ℕ)) (z : List ℕ) → ((u : List ℕ) → is_awaited (left_behind rules done) u ≡ true → Has seen u ⊎ Has unseen u)
        → (u : List ℕ) → is_awaited (left_behind rules done) u ≡ true → Has (z ∷ seen) u ⊎ Has (filter (λ t. not (same_name z t)) unseen) u
    still_covers seen unseen z all u h = go (all u h)
      where
        rest : Has unseen u → Has (z ∷ seen) u ⊎ Has (filter (λ t. not (same_name z t)) unseen) u
        rest e = pick (same_name u z) refl
          where
            pick : (b : Bool) → same_name u z ≡ b → Has (z ∷ seen) u ⊎ Has (filter (λ t. not (same_name z t)) unseen) u
            pick true same = inl (or_left (same_name u z) (list_any (same_name u) seen) same)
            pick false other =
                let f = one_passes (same_name u) unseen e in
                let is : u ≡ f.1 = same-true u f.1 f.3 in
                let kept = kept_there (λ t. not (same_name z t)) unseen f.0 f.1 f.2 (ap (λ t. not (same_name z t)) (sym is) ∙ ap not (nat_list_eq_equiv.symm z u ∙ other)) in
                inr (any_at (same_name u) (filter (λ t. not (same_name z t)) unseen) kept.0 f.1 kept.1 f.3)

        go : Has seen u ⊎ Has unseen u → Has (z ∷ seen) u ⊎ Has (filter (λ t. not (same_name z t)) unseen) u
        go (inl e) = inl (or_right (same_name u z) (list_any (same_name u) seen) e)
        go (inr e) = rest e

    fewer : (unseen : List (List ℕ)) (z : List ℕ) → Has unseen z → length (filter (λ t. not (same_name z t)) unseen) < length unseen
    fewer unseen z h =
        let f = one_passes (same_name z) unseen h in
        shorter (λ t. not (same_name z t)) unseen (all_fails (λ t. not (same_name z t)) unseen f.0 f.1 f.2 (ap not f.3))

    nothing : (unseen : List (List ℕ)) (z : List ℕ) → length unseen ≤ 0 → Has unseen z → ⊥
    nothing [] z few h = never h
    nothing (u ∷ us) z few h = absurd (omega (arith, few))

    -- from an item to one that it awaits, until one is met again: each step leaves fewer that are not met yet
    walk : (n : ℕ) (unseen seen : List (List ℕ)) (y : List ℕ) → length unseen ≤ n → is_awaited (left_behind rules done) y ≡ true → ((s : List ℕ) → Has seen s → DependsOn rules s y ⊎ (s ≡ y))
        → ((u : List ℕ) → is_awaited (left_behind rules done) u ≡ true → Has seen u ⊎ Has unseen u) → (item : List ℕ) × DependsOn rules item item
    walk zero unseen seen y few here leads all =
        let f = awaits y here in
        go f.0 f.1 (all f.0 f.2)
      where
        go : (z : List ℕ) → IsMadeOf rules y z → Has seen z ⊎ Has unseen z → (item : List ℕ) × DependsOn rules item item
        go z made (inl there) = met_again seen y z leads made there
        go z made (inr new) = absurd (nothing unseen z few new)
    walk (suc n) unseen seen y few here leads all =
        let f = awaits y here in
        go f.0 f.1 f.2 (all f.0 f.2) (walk n (filter (λ t. not (same_name f.0 t)) unseen) (f.0 ∷ seen) f.0)
      where
        go : (z : List ℕ) → IsMadeOf rules y z → is_awaited (left_behind rules done) z ≡ true → Has seen z ⊎ Has unseen z
            → (length (filter (λ t. not (same_name z t)) unseen) ≤ n → is_awaited (left_behind rules done) z ≡ true → ((s : List ℕ) → Has (z ∷ seen) s → DependsOn rules s z ⊎ (s ≡ z))
            → ((u : List ℕ) → is_awaited (left_behind rules done) u ≡ true → Has (z ∷ seen) u ⊎ Has (filter (λ t. not (same_name z t)) unseen) u) → (item : List ℕ) × DependsOn rules item item)
            → (item : List ℕ) × DependsOn rules item item
        go z made waits (inl there) again = met_again seen y z leads made there
        go z made waits (inr new) again = let less = fewer unseen z new in again (omega (arith, less, few)) waits (lead_on seen y z leads made) (still_covers seen unseen z all)

    pub circle : 0 < length (left_behind rules done) → (item : List ℕ) × DependsOn rules item item
    circle some =
        let f = first_of (left_behind rules done) some in
        let g = kept_at (is_left done) (enumerate_from 0 rules) 0 f.0 f.1 in
        let y : List ℕ = left_item f.0.1 in
        let eq : is_equation f.0.1 ≡ true = (and_parts (not (list_any (nat_eq f.0.0) done)) (is_equation f.0.1) g.2).1 in
        let here : is_awaited (left_behind rules done) y ≡ true = any_at (λ x. defines y x.1) (left_behind rules done) 0 f.0 f.1 (and_from (is_equation f.0.1) (same_name y (left_item f.0.1)) eq (same_itself y)) in
        let names : List (List ℕ) = map (λ x. left_item x.1) (left_behind rules done) in
        walk (length names) names (y ∷ []) y (omega arith) here (λ s h. inr (alone y s h)) (λ u h. inr (is_computed u h))
      where
        alone : (y s : List ℕ) → Has (y ∷ []) s → s ≡ y
        alone y s h = go (or_cases (same_name s y) false h)
          where
            go : (same_name s y ≡ true) ⊎ (false ≡ true) → s ≡ y
            go (inl e) = same-true s y e
            go (inr e) = absurd (never e)

  pub stuck_is_circular : order_of rules ≡ None → (item : List ℕ) × DependsOn rules item item
  stuck_is_circular e = let f = stuck_at (length (left_behind rules [])) [] refl e in circle f.0 f.1 f.2

  -- ---- where an item depends on itself
  module _ (item : List ℕ) (itself : DependsOn rules item item) where
    -- a rule that has on the right an item that depends on it
    abbrev pub IsNeedy : HierRule → Type 0
    IsNeedy r = (is_equation r ≡ true) × ((m : List ℕ) × (list_any (same_name m) (right_items r) ≡ true) × DependsOn rules m item)

    needy : (m : List ℕ) → DependsOn rules m item → (i : ℕ) × (r : HierRule) × (slice_get rules i ≡ Some r) × (defines m r ≡ true) × IsNeedy r
    needy m d = go m item d refl
      where
        go : (m on : List ℕ) → DependsOn rules m on → on ≡ item → (i : ℕ) × (r : HierRule) × (slice_get rules i ≡ Some r) × (defines m r ≡ true) × IsNeedy r
        go m on (directly a b made) same =
            (made.0, made.1, made.2, made.3, ((and_parts (is_equation made.1) (same_name a (left_item made.1)) made.3).0, (b, made.4, subst (λ (t : List ℕ). DependsOn rules t item) (sym same) itself)))
        go m on (through a b c made rest) same =
            (made.0, made.1, made.2, made.3, ((and_parts (is_equation made.1) (same_name a (left_item made.1)) made.3).0, (b, made.4, subst (λ (t : List ℕ). DependsOn rules b t) same rest)))

    abbrev pub AllLeft : List ℕ → Type 0
    AllLeft done = (i : ℕ) (r : HierRule) → slice_get rules i ≡ Some r → IsNeedy r → is_left done (i, r) ≡ true

    -- such a rule is not ready while all are left
    not_ready : (done : List ℕ) → AllLeft done → (i : ℕ) (r : HierRule) → IsNeedy r → is_ready (left_behind rules done) (i, r) ≡ false
    not_ready done all i r need =
        let f = one_passes (same_name need.1.0) (right_items r) need.1.1 in
        let is : need.1.0 ≡ f.1 = same-true need.1.0 f.1 f.3 in
        let maker = needy need.1.0 need.1.2 in
        let there = kept_there (is_left done) (enumerate_from 0 rules) maker.0 (maker.0, maker.1) (rule_at rules maker.0 maker.1 maker.2) (all maker.0 maker.1 maker.2 maker.4) in
        let awaited : is_awaited (left_behind rules done) need.1.0 ≡ true = any_at (λ x. defines need.1.0 x.1) (left_behind rules done) there.0 (maker.0, maker.1) there.1 maker.3 in
        all_fails (λ t. not (is_awaited (left_behind rules done) t)) (right_items r) f.0 f.1 f.2 (ap (λ t. not (is_awaited (left_behind rules done) t)) (sym is) ∙ ap not awaited)

    stays_left : (done : List ℕ) (x : Placed) → next_behind rules done ≡ Some x → AllLeft done → AllLeft (done ++ x.0 ∷ [])
    stays_left done x e all i r at need = still_left rules done x.0 (i, r) ∙ go (nat_eq i x.0) refl
      where
        go : (b : Bool) → nat_eq i x.0 ≡ b → cond b false (is_left done (i, r)) ≡ true
        go false h = all i r at need
        go true h =
            let f = found_is (is_ready (left_behind rules done)) (left_behind rules done) x e in
            let g = kept_at (is_left done) (enumerate_from 0 rules) f.0 x f.1 in
            let p = place_is 0 rules g.0 x g.1 in
            let here : g.0 ≡ i = let q = eqb-true i x.0 h in omega (arith, p.0, q) in
            let same : x.1 ≡ r = one_rule rules i x.1 r (ap (slice_get rules) (sym here) ∙ p.1) at in
            absurd (never (sym (ap (λ s. is_ready (left_behind rules done) (i, s)) same ∙ not_ready done all i r need) ∙ f.2))

    never_ends : (n : ℕ) (done : List ℕ) → length (left_behind rules done) ≡ n → AllLeft done → order_behind n rules done ≡ None
    never_ends zero done many all =
        let maker = needy item itself in
        let there = kept_there (is_left done) (enumerate_from 0 rules) maker.0 (maker.0, maker.1) (rule_at rules maker.0 maker.1 maker.2) (all maker.0 maker.1 maker.2 maker.4) in
        let some = some_there (left_behind rules done) there.0 (maker.0, maker.1) there.1 in
        absurd (omega (arith, some, many))
    never_ends (suc n) done many all = go (next_behind rules done) refl (λ d m a. never_ends n d m a)
      where
        go : (o : Option Placed) → next_behind rules done ≡ o → ((d : List ℕ) → length (left_behind rules d) ≡ n → AllLeft d → order_behind n rules d ≡ None) → given o (λ x. order_behind n rules (done ++ x.0 ∷ [])) None ≡ None
        go None is ih = refl
        go (Some x) is ih = let less = one_less_left done x is in ih (done ++ x.0 ∷ []) (omega (arith, less, many)) (stays_left done x is all)

    pub circular_is_stuck : order_of rules ≡ None
    circular_is_stuck = never_ends (length (left_behind rules [])) [] refl (λ i r at need. need.0)
