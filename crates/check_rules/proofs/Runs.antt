-- Rules that are put in their order, one after the other: what each step keeps.
use Rattle.std.proofs.Common.{◌≡◌, ◌⊎◌, inl, inr, ℕ, suc, ◌+◌, ◌-◌, ◌<◌, ◌≤◌, Bool, true, false, not, ◌&&◌, ◌||◌, cond, List, [], ◌∷◌, ◌++◌, map, length, take, drop, get_or, set, replicate, Option, Some, None, refl, sym, ap, ◌∙◌, subst, arith, BTreeSet}
use Rattle.std.specs.Prelude.{slice_get, nat_eq, nat_lt, unwrap_or}
use Rattle.std.specs.BTreeMap.{is_at}
use Rattle.std.specs.BTreeSet.{contains}
use Rattle.std.specs.List.{enumerate_from, list_all, list_any}
use Rattle.std.proofs.lemmas.Map.Lookups.{exact_unsigned}
use Rattle.std.specs.Cmp.{Equal-is}
use Rattle.std.specs.Map.{lookup}
use Rattle.std.specs.Ordering.{nat_cmp}
use Rattle.std.proofs.lemmas.Bool.{and_from, and_parts, cases_eq, cases_lt, eq-eqb, eqb-true, false_from_ne_true, lt-ltb, ne_eqb, or_cases, or_left, or_right}
use Rattle.std.proofs.lemmas.List.{drop_more, get_or-replicate, get_or-set_other, get_or-set_same, get_or_past, length-replicate, length-set, take_all}
use Rattle.std.proofs.lemmas.Option.{slice_get_within}
use Rattle.std.specs.Cmp.Lexicographic.{bytes_decides, nat_list_eq_equiv}
use Rattle.vtl_lists.specs.Options.{given}
use Rattle.vtl_text.specs.Texts.{same_text}
use Rattle.vtl_syntax.specs.declared.statements.HierRule.{HierRule}
use Rattle.vtl_tree.specs.Structure.{same_name}
use Rattle.check_rules.specs.Order.{Placed, is_awaited, is_left, is_ready, left_behind, next_behind, order_behind}
use Rattle.check_rules.specs.RuleItems.{defines}
use Rattle.vtl_tree.specs.RuleItems.{is_equation, left_item, right_items}
use Rattle.check_rules.specs.Running.{AreUsers, IsRunning, IsStep, count_at, is_free_by, is_place_in, number, places_at, places_of, times_computed, uses_of}
use Rattle.check_rules.proofs.Counts.{any_numbered, at_place, first_kept, none_kept, one_less, place_is, place_more}
use Rattle.check_rules.proofs.Lists.{all_at, all_fails, all_where, among_places, any_at, gathered_at, gathered_from, one_fails, one_passes, place_among}

-- numbers that differ do not tie
pub not_at : (place q : ℕ) → (q ≡ place → ⊥) → is_at (nat_cmp place) q ≡ false
not_at place q other = false_from_ne_true (is_at (nat_cmp place) q) (λ e. other (sym (exact_unsigned place q ((Equal-is (nat_cmp place q)).0 e))))

-- ---- what is left, and what is awaited
module _ (rules : List HierRule) where
  -- an item is awaited where it is computed at least once
  pub awaited_is : (done : List ℕ) (item : List ℕ) → is_awaited (left_behind rules done) item ≡ nat_lt 0 (times_computed done item (enumerate_from 0 rules))
  awaited_is done item = any_numbered (is_left done) (λ x. defines item x.1) (enumerate_from 0 rules)

  -- whether no rule that is left computes an item
  abbrev pub is_settled : (done : List ℕ) → List ℕ → Bool
  is_settled done item = not (is_awaited (left_behind rules done) item)

  module _ (awaited : List (List ℕ × ℕ)) (done : List ℕ) (counted : (item : List ℕ) → count_at item awaited ≡ times_computed done item (enumerate_from 0 rules)) where
    pub settled_is : (item : List ℕ) → is_settled done item ≡ is_free_by awaited item
    settled_is item = ap not (awaited_is done item ∙ ap (nat_lt 0) (sym (counted item)))

    pub to_free : (items : List (List ℕ)) → list_all (is_settled done) items ≡ true → list_all (is_free_by awaited) items ≡ true
    to_free items = all_where (is_settled done) (is_free_by awaited) (λ x e. sym (settled_is x) ∙ e) items

    pub from_free : (items : List (List ℕ)) → list_all (is_free_by awaited) items ≡ true → list_all (is_settled done) items ≡ true
    from_free items = all_where (is_free_by awaited) (is_settled done) (λ x e. settled_is x ∙ e) items

  -- the rule at a place
  pub rule_at : (i : ℕ) (r : HierRule) → slice_get rules i ≡ Some r → slice_get (enumerate_from 0 rules) i ≡ Some (i, r)
  rule_at i r e = at_place 0 rules i r e ∙ ap (λ m. Some (m, r)) (omega arith)

  pub one_rule : (i : ℕ) (r s : HierRule) → slice_get rules i ≡ Some r → slice_get rules i ≡ Some s → r ≡ s
  one_rule i r s e f = cc

  -- the places of the rules that are left
  pub place_of_left : (done : List ℕ) (i : ℕ) (r : HierRule) → slice_get rules i ≡ Some r → is_left done (i, r) ≡ true → is_place_in (map (λ x. x.0) (left_behind rules done)) i ≡ true
  place_of_left done i r e l = among_places (is_left done) (enumerate_from 0 rules) i (i, r) (rule_at i r e) l

  pub left_at_place : (done : List ℕ) (i : ℕ) → is_place_in (map (λ x. x.0) (left_behind rules done)) i ≡ true → (r : HierRule) × (slice_get rules i ≡ Some r) × (is_left done (i, r) ≡ true)
  left_at_place done i e =
      let f = place_among (is_left done) (enumerate_from 0 rules) i e in
      let at = place_is 0 rules f.0 f.1 f.2 in
      let here : f.0 ≡ i = omega (arith, at.0, f.4) in (
        f.1.1,
        ap (slice_get rules) (sym here) ∙ at.1,
        ap (λ j. is_left done (j, f.1.1)) f.4 ∙ f.3,
      )

  -- ---- the start
  no_place : (i : ℕ) → ◌≡◌ {A = ℕ} (get_or (replicate (length rules) 0) i 0) 0
  no_place i = go (cases_lt i (length rules))
    where
      go : (i < length rules) ⊎ (length rules ≤ i) → ◌≡◌ {A = ℕ} (get_or (replicate (length rules) 0) i 0) 0
      go (inl h) = get_or-replicate (length rules) i 0 0 h
      go (inr h) = let long = length-replicate {A = ℕ} (length rules) 0 in get_or_past (replicate (length rules) 0) i 0 (omega (arith, long))

  pub starts : (awaited : List (List ℕ × ℕ)) (free : List ℕ) (ready : BTreeSet ℕ)
      → ((item : List ℕ) → count_at item awaited ≡ times_computed [] item (enumerate_from 0 rules)) → free ≡ replicate (length rules) 0 → ready.keys ≡ []
      → IsRunning rules [] (map (λ x. x.0) (left_behind rules [])) awaited free ready
  starts awaited free ready counted zeros empty = record {
    counted = counted;
    many = ap length zeros ∙ length-replicate {A = ℕ} (length rules) 0;
    passed = λ i r e. ap (λ n. list_all (is_settled []) (take n (right_items r))) (ap (λ l. get_or l i 0) zeros ∙ no_place i);
    are_ready = λ i h. absurd (nothing i h);
    all_ready = λ i r e l h. inr (place_of_left [] i r e l);
    are_left = λ i h. left_at_place [] i h;
    are_done = λ i r e h. absurd (never h);
  }
    where
      never : false ≡ true → ⊥
      never e = cc

      nothing : (i : ℕ) → contains nat_cmp ready i ≡ true → ⊥
      nothing i h = never (sym (ap (λ l. list_any (is_at (nat_cmp i)) l) empty) ∙ h)

  -- ---- the next rule
  module _ (done : List ℕ) (awaited : List (List ℕ × ℕ)) (free : List ℕ) (ready : BTreeSet ℕ) (run : IsRunning rules done [] awaited free ready) where
    known_ready : (i : ℕ) (r : HierRule) → slice_get rules i ≡ Some r → is_left done (i, r) ≡ true → is_ready (left_behind rules done) (i, r) ≡ true → contains nat_cmp ready i ≡ true
    known_ready i r e l h = go (run.all_ready i r e l h)
      where
        go : (contains nat_cmp ready i ≡ true) ⊎ (is_place_in [] i ≡ true) → contains nat_cmp ready i ≡ true
        go (inl c) = c
        go (inr p) = cc

    pub next_is : (place : ℕ) → contains nat_cmp ready place ≡ true → ((q : ℕ) → contains nat_cmp ready q ≡ true → place ≤ q) → (x : Placed) × (next_behind rules done ≡ Some x) × (x.0 ≡ place)
    next_is place here least =
        let f = run.are_ready place here in (
          (place, f.0),
          first_kept (is_left done) (is_ready (left_behind rules done)) (enumerate_from 0 rules) place (place, f.0) (rule_at place f.0 f.1) f.2 f.3
              (λ j y before at kept. false_from_ne_true (is_ready (left_behind rules done) y) (λ t. earlier j y before at kept t)),
          refl,
        )
      where
        earlier : (j : ℕ) (y : Placed) → j < place → slice_get (enumerate_from 0 rules) j ≡ Some y → is_left done y ≡ true → is_ready (left_behind rules done) y ≡ true → ⊥
        earlier j y before at kept t =
            let there = place_is 0 rules j y at in
            let here : y.0 ≡ j = omega (arith, there.0) in
            let le = least j (known_ready j y.1 there.1 (ap (λ m. is_left done (m, y.1)) (sym here) ∙ kept) t) in
            absurd (omega (arith, le, before))

    pub next_none : ((q : ℕ) → contains nat_cmp ready q ≡ false) → next_behind rules done ≡ None
    next_none empty = none_kept (is_left done) (is_ready (left_behind rules done)) (enumerate_from 0 rules) (λ j y at kept. false_from_ne_true (is_ready (left_behind rules done) y) (λ t. here j y at kept t))
      where
        never : false ≡ true → ⊥
        never e = cc

        here : (j : ℕ) (y : Placed) → slice_get (enumerate_from 0 rules) j ≡ Some y → is_left done y ≡ true → is_ready (left_behind rules done) y ≡ true → ⊥
        here j y at kept t =
            let there = place_is 0 rules j y at in
            let same : y.0 ≡ j = omega (arith, there.0) in
            never (sym (empty j) ∙ known_ready j y.1 there.1 (ap (λ m. is_left done (m, y.1)) (sym same) ∙ kept) t)

  -- the first of those that are pending is a place
  pub head_within : (places : List ℕ) (i : ℕ) (done : List ℕ) (awaited : List (List ℕ × ℕ)) (free : List ℕ) (ready : BTreeSet ℕ) → i < length places → IsRunning rules done (drop i places) awaited free ready → get_or places i 0 < length rules
  head_within places i done awaited free ready h run =
      let now : IsRunning rules done (get_or places i 0 ∷ drop (i + 1) places) awaited free ready = subst (λ l. IsRunning rules done l awaited free ready) (drop_more places i 0 h) run in
      let f = now.are_left (get_or places i 0) (or_left (nat_eq (get_or places i 0) (get_or places i 0)) (is_place_in (drop (i + 1) places) (get_or places i 0)) (eq-eqb (get_or places i 0) (get_or places i 0) refl)) in
      slice_get_within rules (get_or places i 0) f.0 f.1

  -- ---- a look at one rule
  module _ (done pending : List ℕ) (awaited : List (List ℕ × ℕ)) (free : List ℕ) (ready : BTreeSet ℕ) (place n : ℕ) (r : HierRule) (at : slice_get rules place ≡ Some r)
      (run : IsRunning rules done (place ∷ pending) awaited free ready)
      (more : list_all (is_free_by awaited) (take (get_or free place 0) (right_items r)) ≡ true → list_all (is_free_by awaited) (take n (right_items r)) ≡ true) where
    known : list_all (is_settled done) (take n (right_items r)) ≡ true
    known = from_free awaited done run.counted (take n (right_items r)) (more (to_free awaited done run.counted (take (get_or free place 0) (right_items r)) (run.passed place r at)))

    within : place < length free
    within = let h = slice_get_within rules place r at in let m = run.many in omega (arith, h, m)

    passed_now : (i : ℕ) (s : HierRule) → slice_get rules i ≡ Some s → list_all (is_settled done) (take (get_or (set free place n) i 0) (right_items s)) ≡ true
    passed_now i s e = go (cases_eq i place)
      where
        go : (i ≡ place) ⊎ (i ≡ place → ⊥) → list_all (is_settled done) (take (get_or (set free place n) i 0) (right_items s)) ≡ true
        go (inl same) =
            let is : s ≡ r = one_rule place s r (ap (slice_get rules) (sym same) ∙ e) at in
            ap (λ j. list_all (is_settled done) (take (get_or (set free place n) j 0) (right_items s))) same
            ∙ ap (λ m. list_all (is_settled done) (take m (right_items s))) (get_or-set_same free place n 0 within) ∙ ap (λ q. list_all (is_settled done) (take n (right_items q))) is ∙ known
        go (inr other) = ap (λ m. list_all (is_settled done) (take m (right_items s))) (get_or-set_other free place i n 0 other) ∙ run.passed i s e

    left_there : is_left done (place, r) ≡ true
    left_there =
        let h = run.are_left place (or_left (nat_eq place place) (is_place_in pending place) (eq-eqb place place refl)) in
        ap (λ s. is_left done (place, s)) (one_rule place r h.0 at h.1) ∙ h.2

    pub looked_waiting : (list_all (is_free_by awaited) (right_items r) ≡ false) → IsRunning rules done pending awaited (set free place n) ready
    looked_waiting waits = record {
      counted = run.counted;
      many = length-set free place n ∙ run.many;
      passed = passed_now;
      are_ready = run.are_ready;
      all_ready = λ i s e l h. go i s e h (run.all_ready i s e l h);
      are_left = λ i h. run.are_left i (or_right (nat_eq i place) (is_place_in pending i) h);
      are_done = run.are_done;
    }
      where
        never : true ≡ false → ⊥
        never e = cc

        go : (i : ℕ) (s : HierRule) → slice_get rules i ≡ Some s → is_ready (left_behind rules done) (i, s) ≡ true → (contains nat_cmp ready i ≡ true) ⊎ (is_place_in (place ∷ pending) i ≡ true)
            → (contains nat_cmp ready i ≡ true) ⊎ (is_place_in pending i ≡ true)
        go i s e h (inl c) = inl c
        go i s e h (inr p) = pick (or_cases (nat_eq i place) (is_place_in pending i) p)
          where
            pick : (nat_eq i place ≡ true) ⊎ (is_place_in pending i ≡ true) → (contains nat_cmp ready i ≡ true) ⊎ (is_place_in pending i ≡ true)
            pick (inr q) = inr q
            pick (inl q) =
                let same : s ≡ r = one_rule place s r (ap (slice_get rules) (sym (eqb-true i place q)) ∙ e) at in
                absurd (never (sym (to_free awaited done run.counted (right_items r) (ap (λ z. list_all (is_settled done) (right_items z)) (sym same) ∙ h)) ∙ waits))

    pub looked_ready : (now : BTreeSet ℕ) → length (right_items r) ≤ n → contains nat_cmp now place ≡ true → ((q : ℕ) → (q ≡ place → ⊥) → contains nat_cmp now q ≡ contains nat_cmp ready q)
        → IsRunning rules done pending awaited (set free place n) now
    looked_ready now whole put others = record {
      counted = run.counted;
      many = length-set free place n ∙ run.many;
      passed = passed_now;
      are_ready = λ i h. ready_there i h (cases_eq i place);
      all_ready = λ i s e l h. go i (run.all_ready i s e l h) (cases_eq i place);
      are_left = λ i h. run.are_left i (or_right (nat_eq i place) (is_place_in pending i) h);
      are_done = run.are_done;
    }
      where
        ready_here : is_ready (left_behind rules done) (place, r) ≡ true
        ready_here = ap (list_all (is_settled done)) (sym (take_all n (right_items r) whole)) ∙ known

        ready_there : (i : ℕ) → contains nat_cmp now i ≡ true → (i ≡ place) ⊎ (i ≡ place → ⊥)
            → (s : HierRule) × (slice_get rules i ≡ Some s) × (is_left done (i, s) ≡ true) × (is_ready (left_behind rules done) (i, s) ≡ true)
        ready_there i h (inl same) = (r, ap (slice_get rules) same ∙ at, ap (λ j. is_left done (j, r)) same ∙ left_there, ready_here)
        ready_there i h (inr other) = run.are_ready i (sym (others i other) ∙ h)

        go : (i : ℕ) → (contains nat_cmp ready i ≡ true) ⊎ (is_place_in (place ∷ pending) i ≡ true) → (i ≡ place) ⊎ (i ≡ place → ⊥) → (contains nat_cmp now i ≡ true) ⊎ (is_place_in pending i ≡ true)
        go i p (inl same) = inl (ap (contains nat_cmp now) same ∙ put)
        go i (inl c) (inr other) = inl (others i other ∙ c)
        go i (inr p) (inr other) = pick (or_cases (nat_eq i place) (is_place_in pending i) p)
          where
            pick : (nat_eq i place ≡ true) ⊎ (is_place_in pending i ≡ true) → (contains nat_cmp now i ≡ true) ⊎ (is_place_in pending i ≡ true)
            pick (inl q) = absurd (other (eqb-true i place q))
            pick (inr q) = inr q

  -- ---- one rule more is done
  module _ (done : List ℕ) (place : ℕ) where
    pub still_left : (x : Placed) → is_left (done ++ place ∷ []) x ≡ cond (nat_eq x.0 place) false (is_left done x)
    still_left x = ap (λ b. not b && is_equation x.1) (place_more done place x.0) ∙ go (list_any (nat_eq x.0) done) (nat_eq x.0 place)
      where
        go : (a b : Bool) → (not (a || b) && is_equation x.1) ≡ cond b false (not a && is_equation x.1)
        go true true = refl
        go true false = refl
        go false true = refl
        go false false = refl

    times_less : (r : HierRule) → slice_get rules place ≡ Some r → is_left done (place, r) ≡ true → (item : List ℕ)
        → times_computed done item (enumerate_from 0 rules) ≡ cond (same_name item (left_item r)) (suc (times_computed (done ++ place ∷ []) item (enumerate_from 0 rules))) (times_computed (done ++ place ∷ []) item (enumerate_from 0 rules))
    times_less r at l item =
        let start : place ≡ 0 + place = omega arith in
        let same : (λ (x : Placed). cond (nat_eq x.0 place) false (is_left done x) && defines item x.1) ≡ (λ (x : Placed). is_left (done ++ place ∷ []) x && defines item x.1) = λ k x. sym (still_left x) k && defines item x.1 in
        one_less (is_left done) (λ x. defines item x.1) place 0 place rules r start at
        ∙ ap (λ (f : Placed → Bool). cond (is_left done (place, r) && defines item r) (suc (number f (enumerate_from 0 rules))) (number f (enumerate_from 0 rules))) same
        ∙ ap (λ b. cond b (suc (times_computed (done ++ place ∷ []) item (enumerate_from 0 rules))) (times_computed (done ++ place ∷ []) item (enumerate_from 0 rules)))
        (ap (λ b. b && defines item r) l ∙ ap (λ b. b && same_name item (left_item r)) (and_parts (not (list_any (nat_eq place) done)) (is_equation r) l).1)

    module _ (r : HierRule) (at : slice_get rules place ≡ Some r) (here : is_left done (place, r) ≡ true) where
      -- an item of another name is as it was
      other_settled : (x : List ℕ) → same_name x (left_item r) ≡ false → is_settled (done ++ place ∷ []) x ≡ is_settled done x
      other_settled x e =
          ap not (awaited_is (done ++ place ∷ []) x ∙ sym (awaited_is done x ∙ ap (nat_lt 0) (times_less r at here x ∙ ap (λ b. cond b (suc (times_computed (done ++ place ∷ []) x (enumerate_from 0 rules))) (times_computed (done ++ place ∷ []) x (enumerate_from 0 rules))) e)))

      -- its item was awaited
      own_awaited : (x : List ℕ) → same_name x (left_item r) ≡ true → is_settled done x ≡ false
      own_awaited x e =
          ap not (
          awaited_is done x
          ∙ ap (nat_lt 0) (times_less r at here x ∙ ap (λ b. cond b (suc (times_computed (done ++ place ∷ []) x (enumerate_from 0 rules))) (times_computed (done ++ place ∷ []) x (enumerate_from 0 rules))) e)
          ∙ lt-ltb 0 (suc (times_computed (done ++ place ∷ []) x (enumerate_from 0 rules))) (omega arith)
          )

      -- what was settled stays so
      stays : (x : List ℕ) → is_settled done x ≡ true → is_settled (done ++ place ∷ []) x ≡ true
      stays x h = go (same_name x (left_item r)) refl
        where
          never : false ≡ true → ⊥
          never e = cc

          go : (b : Bool) → same_name x (left_item r) ≡ b → is_settled (done ++ place ∷ []) x ≡ true
          go true e = absurd (never (sym (own_awaited x e) ∙ h))
          go false e = other_settled x e ∙ h

      all_stay : (items : List (List ℕ)) → list_all (is_settled done) items ≡ true → list_all (is_settled (done ++ place ∷ [])) items ≡ true
      all_stay items = all_where (is_settled done) (is_settled (done ++ place ∷ [])) stays items

      left_before : (i : ℕ) (s : HierRule) → is_left (done ++ place ∷ []) (i, s) ≡ true → (is_left done (i, s) ≡ true) × (i ≡ place → ⊥)
      left_before i s h = go (nat_eq i place) refl (sym (still_left (i, s)) ∙ h)
        where
          go : (b : Bool) → nat_eq i place ≡ b → cond b false (is_left done (i, s)) ≡ true → (is_left done (i, s) ≡ true) × (i ≡ place → ⊥)
          go true e q = cc
          go false e q = (q, λ same. apart (sym e ∙ eq-eqb i place same))
            where
              apart : false ≡ true → ⊥
              apart p = cc

      -- the rules that use its item
      module _ (users : List (List ℕ × List ℕ)) (are : AreUsers rules users) where
        one_place : (i : ℕ) (x : List ℕ) (items : List (List ℕ)) → list_any (same_name x) items ≡ true → is_place_in (places_of i x items) i ≡ true
        one_place i x items e =
            let f = one_passes (same_name x) items e in
            gathered_at (nat_eq i) (λ other. cond (same_name x other) (i ∷ []) []) items f.0 f.1 f.2 (ap (λ b. is_place_in (cond b (i ∷ []) []) i) f.3 ∙ or_left (nat_eq i i) false (eq-eqb i i refl))

        of_place : (i j : ℕ) (x : List ℕ) (items : List (List ℕ)) → is_place_in (places_of j x items) i ≡ true → (i ≡ j) × (list_any (same_name x) items ≡ true)
        of_place i j x items e =
            let f = gathered_from (nat_eq i) (λ other. cond (same_name x other) (j ∷ []) []) items e in
            let both = pick f.1 (same_name x f.1) refl f.3 in
            (both.0, any_at (same_name x) items f.0 f.1 f.2 both.1)
          where
            pick : (y : List ℕ) (b : Bool) → same_name x y ≡ b → is_place_in (cond b (j ∷ []) []) i ≡ true → (i ≡ j) × (same_name x y ≡ true)
            pick y true e h = (eqb-true i j (first (nat_eq i j) h), e)
              where
                first : (c : Bool) → (c || false) ≡ true → c ≡ true
                first true h = refl
                first false h = cc
            pick y false e h = cc

        pub uses_it : (i : ℕ) (s : HierRule) (x : List ℕ) → slice_get rules i ≡ Some s → is_equation s ≡ true → list_any (same_name x) (right_items s) ≡ true → is_place_in (places_at x users) i ≡ true
        uses_it i s x e eq h =
            ap (λ l. is_place_in l i) (are x)
            ∙ gathered_at (nat_eq i) (uses_of x) (enumerate_from 0 rules) i (i, s) (rule_at i s e) (ap (λ b. is_place_in (cond b (places_of i x (right_items s)) []) i) eq ∙ one_place i x (right_items s) h)

        pub used_by : (i : ℕ) (x : List ℕ) → is_place_in (places_at x users) i ≡ true → (s : HierRule) × (slice_get rules i ≡ Some s) × (is_equation s ≡ true) × (list_any (same_name x) (right_items s) ≡ true)
        used_by i x h =
            let f = gathered_from (nat_eq i) (uses_of x) (enumerate_from 0 rules) (ap (λ l. is_place_in l i) (sym (are x)) ∙ h) in
            let there = place_is 0 rules f.0 f.1 f.2 in
            let both = pick f.1 (is_equation f.1.1) refl f.3 in
            let here : f.0 ≡ i = omega (arith, there.0, both.1) in
            (f.1.1, ap (slice_get rules) (sym here) ∙ there.1, both.0, both.2)
          where
            pick : (y : Placed) (b : Bool) → is_equation y.1 ≡ b → is_place_in (cond b (places_of y.0 x (right_items y.1)) []) i ≡ true → (is_equation y.1 ≡ true) × (i ≡ y.0) × (list_any (same_name x) (right_items y.1) ≡ true)
            pick y true e h = let o = of_place i y.0 x (right_items y.1) h in (e, o.0, o.1)
            pick y false e h = cc

        module _ (awaited awaited_now : List (List ℕ × ℕ)) (free : List ℕ) (before ready : BTreeSet ℕ) (run : IsRunning rules done [] awaited free before) (was : contains nat_cmp before place ≡ true)
            (gone : contains nat_cmp ready place ≡ false) (others : (q : ℕ) → (q ≡ place → ⊥) → contains nat_cmp ready q ≡ contains nat_cmp before q)
            (less : (q : List ℕ) → count_at q awaited_now ≡ cond (same_name q (left_item r)) (count_at q awaited - 1) (count_at q awaited)) where
          never : false ≡ true → ⊥
          never e = cc

          counted_now : (q : List ℕ) → count_at q awaited_now ≡ times_computed (done ++ place ∷ []) q (enumerate_from 0 rules)
          counted_now q = less q ∙ ap (λ m. cond (same_name q (left_item r)) (m - 1) m) (run.counted q ∙ times_less r at here q) ∙ go (same_name q (left_item r)) (times_computed (done ++ place ∷ []) q (enumerate_from 0 rules))
            where
              go : (b : Bool) (m : ℕ) → cond b (cond b (suc m) m - 1) (cond b (suc m) m) ≡ m
              go true m = omega arith
              go false m = refl

          ready_here : is_ready (left_behind rules done) (place, r) ≡ true
          ready_here = let f = run.are_ready place was in ap (λ s. list_all (is_settled done) (right_items s)) (one_rule place r f.0 at f.1) ∙ f.3

          ready_now : (i : ℕ) → contains nat_cmp ready i ≡ true → (s : HierRule) × (slice_get rules i ≡ Some s) × (is_left (done ++ place ∷ []) (i, s) ≡ true) × (is_ready (left_behind rules (done ++ place ∷ [])) (i, s) ≡ true)
          ready_now i h = go (cases_eq i place)
            where
              go : (i ≡ place) ⊎ (i ≡ place → ⊥) → (s : HierRule) × (slice_get rules i ≡ Some s) × (is_left (done ++ place ∷ []) (i, s) ≡ true) × (is_ready (left_behind rules (done ++ place ∷ [])) (i, s) ≡ true)
              go (inl same) = absurd (never (sym gone ∙ ap (contains nat_cmp ready) (sym same) ∙ h))
              go (inr other) =
                  let f = run.are_ready i (sym (others i other) ∙ h) in
                  (f.0, f.1, still_left (i, f.0) ∙ ap (λ b. cond b false (is_left done (i, f.0))) (ne_eqb i place other) ∙ f.2, all_stay (right_items f.0) f.3)

          done_now : (i : ℕ) (s : HierRule) → slice_get rules i ≡ Some s → is_place_in (done ++ place ∷ []) i ≡ true → is_ready (left_behind rules (done ++ place ∷ [])) (i, s) ≡ true
          done_now i s e h = all_stay (right_items s) (go (or_cases (is_place_in done i) (nat_eq i place) (sym (place_more done place i) ∙ h)))
            where
              go : (is_place_in done i ≡ true) ⊎ (nat_eq i place ≡ true) → list_all (is_settled done) (right_items s) ≡ true
              go (inl d) = run.are_done i s e d
              go (inr q) = ap (λ z. list_all (is_settled done) (right_items z)) (one_rule place s r (ap (slice_get rules) (sym (eqb-true i place q)) ∙ e) at) ∙ ready_here

          -- one that is ready now was so, or its item is the one that is computed now
          newly : (i : ℕ) (s : HierRule) → slice_get rules i ≡ Some s → is_left (done ++ place ∷ []) (i, s) ≡ true → is_ready (left_behind rules (done ++ place ∷ [])) (i, s) ≡ true
              → (contains nat_cmp ready i ≡ true) ⊎ ((list_any (same_name (left_item r)) (right_items s) ≡ true) × (is_settled (done ++ place ∷ []) (left_item r) ≡ true))
          newly i s e l h = go (list_all (is_settled done) (right_items s)) refl (left_before i s l)
            where
              go : (b : Bool) → list_all (is_settled done) (right_items s) ≡ b → (is_left done (i, s) ≡ true) × (i ≡ place → ⊥)
                  → (contains nat_cmp ready i ≡ true) ⊎ ((list_any (same_name (left_item r)) (right_items s) ≡ true) × (is_settled (done ++ place ∷ []) (left_item r) ≡ true))
              go true q w = pick (run.all_ready i s e w.0 q)
                where
                  pick : (contains nat_cmp before i ≡ true) ⊎ (is_place_in [] i ≡ true) → (contains nat_cmp ready i ≡ true) ⊎ ((list_any (same_name (left_item r)) (right_items s) ≡ true) × (is_settled (done ++ place ∷ []) (left_item r) ≡ true))
                  pick (inl c) = inl (others i w.1 ∙ c)
                  pick (inr p) = cc
              go false q w =
                  let f = one_fails (is_settled done) (right_items s) q in
                  let now : is_settled (done ++ place ∷ []) f.1 ≡ true = all_at (is_settled (done ++ place ∷ [])) (right_items s) f.0 f.1 f.2 h in
                  inr (name f.0 f.1 f.2 f.3 now (same_name f.1 (left_item r)) refl)
                where
                  name : (k : ℕ) (x : List ℕ) → slice_get (right_items s) k ≡ Some x → is_settled done x ≡ false → is_settled (done ++ place ∷ []) x ≡ true → (b : Bool) → same_name x (left_item r) ≡ b
                      → (list_any (same_name (left_item r)) (right_items s) ≡ true) × (is_settled (done ++ place ∷ []) (left_item r) ≡ true)
                  name k x there was now true same =
                      let is : x ≡ left_item r = (bytes_decides x (left_item r)).0 same in
                      (any_at (same_name (left_item r)) (right_items s) k x there (nat_list_eq_equiv.symm (left_item r) x ∙ same), ap (is_settled (done ++ place ∷ [])) (sym is) ∙ now)
                  name k x there was now false other = absurd (never (sym was ∙ sym (other_settled x other) ∙ now))

          users_left : (i : ℕ) → is_place_in (places_at (left_item r) users) i ≡ true → (s : HierRule) × (slice_get rules i ≡ Some s) × (is_left (done ++ place ∷ []) (i, s) ≡ true)
          users_left i h =
              let u = used_by i (left_item r) h in
              (u.0, u.1, go u.0 u.1 u.2 u.3)
            where
              go : (s : HierRule) → slice_get rules i ≡ Some s → is_equation s ≡ true → list_any (same_name (left_item r)) (right_items s) ≡ true → is_left (done ++ place ∷ []) (i, s) ≡ true
              go s e eq any = and_from (not (is_place_in (done ++ place ∷ []) i)) (is_equation s) (ap not (false_from_ne_true (is_place_in (done ++ place ∷ []) i) not_done)) eq
                where
                  awaits : list_all (is_settled done) (right_items s) ≡ false
                  awaits =
                      let f = one_passes (same_name (left_item r)) (right_items s) any in
                      all_fails (is_settled done) (right_items s) f.0 f.1 f.2 (own_awaited f.1 (nat_list_eq_equiv.symm f.1 (left_item r) ∙ f.3))

                  not_done : is_place_in (done ++ place ∷ []) i ≡ true → ⊥
                  not_done h = never (sym awaits ∙ pick (or_cases (is_place_in done i) (nat_eq i place) (sym (place_more done place i) ∙ h)))
                    where
                      pick : (is_place_in done i ≡ true) ⊎ (nat_eq i place ≡ true) → list_all (is_settled done) (right_items s) ≡ true
                      pick (inl d) = run.are_done i s e d
                      pick (inr q) = ap (λ z. list_all (is_settled done) (right_items z)) (one_rule place s r (ap (slice_get rules) (sym (eqb-true i place q)) ∙ e) at) ∙ ready_here

          -- the item is computed: its users are pending
          pub finished_free : IsRunning rules (done ++ place ∷ []) (places_at (left_item r) users) awaited_now free ready
          finished_free = record {
            counted = counted_now;
            many = run.many;
            passed = λ i s e. all_stay (take (get_or free i 0) (right_items s)) (run.passed i s e);
            are_ready = ready_now;
            all_ready = λ i s e l h. go i s e l (newly i s e l h);
            are_left = users_left;
            are_done = done_now;
          }
            where
              go : (i : ℕ) (s : HierRule) → slice_get rules i ≡ Some s → is_left (done ++ place ∷ []) (i, s) ≡ true → (contains nat_cmp ready i ≡ true) ⊎ ((list_any (same_name (left_item r)) (right_items s) ≡ true) × (is_settled (done ++ place ∷ []) (left_item r) ≡ true))
                  → (contains nat_cmp ready i ≡ true) ⊎ (is_place_in (places_at (left_item r) users) i ≡ true)
              go i s e l (inl c) = inl c
              go i s e l (inr n) = inr (uses_it i s (left_item r) e (and_parts (not (is_place_in (done ++ place ∷ []) i)) (is_equation s) l).1 n.0)

          -- another rule computes it too: nothing more is ready
          pub finished_awaited : is_free_by awaited_now (left_item r) ≡ false → IsRunning rules (done ++ place ∷ []) [] awaited_now free ready
          finished_awaited waits = record {
            counted = counted_now;
            many = run.many;
            passed = λ i s e. all_stay (take (get_or free i 0) (right_items s)) (run.passed i s e);
            are_ready = ready_now;
            all_ready = λ i s e l h. go i s (newly i s e l h);
            are_left = λ i h. absurd (never h);
            are_done = done_now;
          }
            where
              go : (i : ℕ) (s : HierRule) → (contains nat_cmp ready i ≡ true) ⊎ ((list_any (same_name (left_item r)) (right_items s) ≡ true) × (is_settled (done ++ place ∷ []) (left_item r) ≡ true))
                  → (contains nat_cmp ready i ≡ true) ⊎ (is_place_in [] i ≡ true)
              go i s (inl c) = inl c
              go i s (inr n) = absurd (never (sym waits ∙ sym (settled_is awaited_now (done ++ place ∷ []) counted_now (left_item r)) ∙ n.1))

          pub finished_alone : None ≡ lookup (same_text (left_item r)) users → IsRunning rules (done ++ place ∷ []) [] awaited_now free ready
          finished_alone none =
              subst (λ places. IsRunning rules (done ++ place ∷ []) places awaited_now free ready) (ap (λ o. unwrap_or o []) (sym none)) finished_free

-- ---- the order of what is done and what is left
module _ (rules : List HierRule) (n done : ℕ) (order now : List ℕ) (within : done < n) (total : Option (List ℕ)) (so_far : order_behind (n - done) rules order ≡ total) where
  one_left : n - done ≡ suc (n - (done + 1))
  one_left = omega arith

  next_gives : given (next_behind rules order) (λ x. order_behind (n - (done + 1)) rules (order ++ x.0 ∷ [])) None ≡ total
  next_gives = ap (λ m. order_behind m rules order) (sym one_left) ∙ so_far

  pub step_taken : IsStep rules order true now → order_behind (n - (done + 1)) rules now ≡ total
  step_taken s = ap (order_behind (n - (done + 1)) rules) s.2 ∙ ap (λ o. given o (λ x. order_behind (n - (done + 1)) rules (order ++ x.0 ∷ [])) None) (sym s.1) ∙ next_gives

  pub step_stuck : IsStep rules order false now → None ≡ total
  step_stuck s = ap (λ o. given o (λ x. order_behind (n - (done + 1)) rules (order ++ x.0 ∷ [])) None) (sym s) ∙ next_gives

-- a set without keys has none
pub holds_none : (s : BTreeSet ℕ) → (0 < length s.keys → false ≡ true) → (q : ℕ) → contains nat_cmp s q ≡ false
holds_none s h q = go s.keys h
  where
    never : false ≡ true → ⊥
    never e = cc

    go : (xs : List ℕ) → (0 < length xs → false ≡ true) → list_any (is_at (nat_cmp q)) xs ≡ false
    go [] h = refl
    go (x ∷ xs) h = absurd (never (h (omega arith)))
