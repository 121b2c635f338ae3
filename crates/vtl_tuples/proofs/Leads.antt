-- Tuples of items that agree, from one of the lists.
use Rattle.std.proofs.Common.{◌≡◌, List, [], ◌∷◌, ◌++◌, Bool, true, ◌&&◌, cond, map, Option, Some, None, refl, sym, ap, ◌∙◌, subst}
use Rattle.std.specs.List.{AllByRecursion, filter, flat_map, list_all}
use Rattle.std.specs.Option.{option_to_list}
use Rattle.std.proofs.lemmas.Bool.{and_parts}
use Rattle.std.proofs.lemmas.List.{append-nil, map-append}
use Rattle.std.proofs.lemmas.List.Folds.{list_all-append}
use Rattle.vtl_lists.specs.Each.{cons_if, each_some}
use Rattle.vtl_lists.specs.Perm.{Perm, chain}
use Rattle.vtl_lists.proofs.Perms.{Perm-same, Perm-filter, Perm-flat_map_each, Perm-map}
use Rattle.vtl_lists.proofs.Alls.{all_append, all_from_test, all_more, all_with, test_from_all}
use Rattle.vtl_lists.proofs.Sorts.{AllByRecursion-map}
use Rattle.vtl_lists.proofs.Tests.{same_tests}
use Rattle.vtl_tuples.specs.Leads.{Finds, FindsOnly, Leads}
use Rattle.vtl_tuples.specs.Tuples.{all_agree, combinations, led, matching}
use Rattle.vtl_tuples.proofs.Lists.{filter-flat_map, filter-map, filter_before, filter_same, flat_map_each, flat_map_same, flat_map_turned, map-flat_map, map-map, map_same}

-- ---- the lead's item may be chosen first
pub lead_first : {X : Type 0} (pre : List (List X)) (lead : List X) (post : List (List X)) → Perm (combinations (pre ++ lead ∷ post)) (flat_map (λ r. combinations (pre ++ (r ∷ []) ∷ post)) lead)
lead_first [] lead post = Perm-same _ _ (flat_map_each (λ r. map (λ t. r ∷ t) (combinations post)) (λ r. combinations ((r ∷ []) ∷ post)) (λ r. sym (append-nil (map (λ t. r ∷ t) (combinations post)))) lead)
lead_first {X = X} (xs ∷ pre) lead post =
    let C : X → List (List X) = λ r. combinations (pre ++ (r ∷ []) ∷ post) in
    let front : X → List X → List X = λ x t. x ∷ t in
    chain (Perm-flat_map_each (λ x. map (front x) (combinations (pre ++ lead ∷ post))) (λ x. flat_map (λ r. map (front x) (C r)) lead) (λ x. chain (Perm-map (front x) (lead_first pre lead post)) (Perm-same _ _ (map-flat_map (front x) C lead))) xs)
    (flat_map_turned (λ x r. map (front x) (C r)) xs lead)

pub lead_of_matching : {X : Type 0} (agree : X → X → Bool) (pre : List (List X)) (lead : List X) (post : List (List X)) → Perm (matching agree (pre ++ lead ∷ post)) (flat_map (λ x. matching agree (pre ++ (x ∷ []) ∷ post)) lead)
lead_of_matching agree pre lead post =
    chain (Perm-filter (all_agree agree) (lead_first pre lead post)) (Perm-same _ _ (filter-flat_map (all_agree agree) (λ x. combinations (pre ++ (x ∷ []) ∷ post)) lead))

-- ---- a test of each item alone is made before
pub combinations_kept : {X : Type 0} (p : X → Bool) (xss : List (List X)) → filter (list_all p) (combinations xss) ≡ combinations (map (filter p) xss)
combinations_kept p [] = refl
combinations_kept {X = X} p (xs ∷ xss) =
    let C = combinations xss in
    let front : X → List X → List X = λ x t. x ∷ t in
    filter-flat_map (list_all p) (λ x. map (front x) C) xs
    ∙ flat_map_each (λ x. filter (list_all p) (map (front x) C)) (λ x. map (front x) (filter (λ t. p x && list_all p t) C)) (λ x. filter-map (list_all p) (front x) C) xs
    ∙ filter_before p (λ x. list_all p) front C xs
    ∙ ap (λ c. flat_map (λ x. map (front x) c) (filter p xs)) (combinations_kept p xss)

-- one item at most of each
pub combinations_of_options : {X O : Type 0} (f : O → Option X) (os : List O) → combinations (map (λ o. option_to_list (f o)) os) ≡ option_to_list (each_some f os)
combinations_of_options f [] = refl
combinations_of_options f (o ∷ os) = ap (λ c. flat_map (λ x. map (λ t. x ∷ t) c) (option_to_list (f o))) (combinations_of_options f os) ∙ go (f o) (each_some f os)
  where
    go : {X : Type 0} (m : Option X) (ms : Option (List X)) → flat_map (λ x. map (λ t. x ∷ t) (option_to_list ms)) (option_to_list m) ≡ option_to_list (cons_if m ms)
    go None ms = refl
    go (Some x) None = refl
    go (Some x) (Some xs) = refl

-- ---- what holds of each combination
-- items of which P holds, in tuples that hold r at a place
abbrev Around : {X : Type 0} → X → List X → Type 0
Around {X = X} r t = (u : List X) × (v : List X) × (t ≡ u ++ r ∷ v)

fronts : {X : Type 0} (P : X → Type 0) (Q Q' : List X → Type 0) (xs : List X) (ts : List (List X)) → ((x : X) (t : List X) → P x → Q t → Q' (x ∷ t)) → AllByRecursion P xs → AllByRecursion Q ts → AllByRecursion Q' (flat_map (λ x. map (λ t. x ∷ t) ts) xs)
fronts P Q Q' [] ts f h i = tt
fronts P Q Q' (x ∷ xs) ts f h i =
    all_append Q' (map (λ t. x ∷ t) ts) (flat_map (λ z. map (λ t. z ∷ t) ts) xs)
    (AllByRecursion-map (λ t. x ∷ t) Q' ts (all_more Q (λ t. Q' (x ∷ t)) (λ t q. f x t h.0 q) ts i))
    (fronts P Q Q' xs ts f h.1 i)

combined : {X : Type 0} (P : X → Type 0) (xss : List (List X)) → AllByRecursion (AllByRecursion P) xss → AllByRecursion (AllByRecursion P) (combinations xss)
combined P [] all = (tt, tt)
combined P (xs ∷ xss) all = fronts P (AllByRecursion P) (AllByRecursion P) xs (combinations xss) (λ x t p q. (p, q)) all.0 (combined P xss all.1)

around : {X : Type 0} (P : X → Type 0) (r : X) (pre post : List (List X)) → AllByRecursion (AllByRecursion P) pre → AllByRecursion (AllByRecursion P) post → AllByRecursion (Around r) (combinations (pre ++ (r ∷ []) ∷ post))
around {X = X} P r [] post h i = fronts (λ x. x ≡ r) (AllByRecursion P) (Around r) (r ∷ []) (combinations post) (λ x t e q. ([], t, ap (λ z. z ∷ t) e)) (refl, tt) (combined P post i)
around P r (xs ∷ pre) post h i = fronts P (Around r) (Around r) xs (combinations (pre ++ (r ∷ []) ∷ post)) (λ x t p q. (x ∷ q.0, q.1, ap (λ z. x ∷ z) q.2)) h.0 (around P r pre post h.1 i)

-- ---- an item that tells for all others whether they agree
module _ {X : Type 0} (P : X → Type 0) (agree : X → X → Bool) (r : X) (leads : Leads P agree r) where
  there : (u v : List X) → AllByRecursion P (u ++ r ∷ v) → all_agree agree (u ++ r ∷ v) ≡ true → AllByRecursion (λ y. agree r y ≡ true) (u ++ r ∷ v)
  there [] v all e = (leads.self, all_from_test (agree r) v (and_parts (list_all (agree r) v) (all_agree agree v) e).0)
  there (x ∷ u) v all e =
      let h = and_parts (list_all (agree x) (u ++ r ∷ v)) (all_agree agree (u ++ r ∷ v)) e in
      let at_r = and_parts (list_all (agree x) u) (agree x r && list_all (agree x) v) (sym (list_all-append (agree x) u (r ∷ v)) ∙ h.0) in
      (leads.turned x all.0 (and_parts (agree x r) (list_all (agree x) v) at_r.1).0, there u v all.1 h.1)

  back : (t : List X) → AllByRecursion P t → AllByRecursion (λ y. agree r y ≡ true) t → all_agree agree t ≡ true
  back [] all h = refl
  back (x ∷ t) all h =
      ap (λ b. b && all_agree agree t) (test_from_all (agree x) t (all_more (λ y. P y × (agree r y ≡ true)) (λ y. agree x y ≡ true) (λ y q. leads.covers x y all.0 q.0 h.0 q.1) t (all_with P (λ y. agree r y ≡ true) t all.1 h.1)))
      ∙ back t all.1 h.1

  by_lead : (t : List X) → AllByRecursion P t → Around r t → all_agree agree t ≡ list_all (agree r) t
  by_lead t all q =
      let all' = subst (AllByRecursion P) q.2 all in
      ap (all_agree agree) q.2
      ∙ same_tests (all_agree agree (q.0 ++ r ∷ q.1)) (list_all (agree r) (q.0 ++ r ∷ q.1))
      (λ e. test_from_all (agree r) (q.0 ++ r ∷ q.1) (there q.0 q.1 all' e)) (λ e. back (q.0 ++ r ∷ q.1) all' (all_from_test (agree r) (q.0 ++ r ∷ q.1) e))
      ∙ ap (list_all (agree r)) (sym q.2)

-- ---- the tuples that agree, from the lead
module _ {X O : Type 0} (P : X → Type 0) (agree : X → X → Bool) (items : O → List X) (f : X → O → Option X) where
  kept_each : (r : X) (pre : List O) (lead : O) (post : List O) → AllByRecursion (FindsOnly agree items f r) pre → AllByRecursion (FindsOnly agree items f r) post → agree r r ≡ true → f r lead ≡ Some r
      → map (filter (agree r)) (map items pre ++ (r ∷ []) ∷ map items post) ≡ map (λ o. option_to_list (f r o)) (pre ++ lead ∷ post)
  kept_each r pre lead post h i self own =
      map-append (filter (agree r)) (map items pre) ((r ∷ []) ∷ map items post)
      ∙ ap (λ l. l ++ map (filter (agree r)) ((r ∷ []) ∷ map items post)) (map-map (filter (agree r)) items pre ∙ map_same (λ o. filter (agree r) (items o)) (λ o. option_to_list (f r o)) pre h)
      ∙ ap (λ l. map (λ o. option_to_list (f r o)) pre ++ l)
      (ap (λ b. cond b (r ∷ []) [] ∷ map (filter (agree r)) (map items post)) self
      ∙ ap (λ l. (r ∷ []) ∷ l) (map-map (filter (agree r)) items post ∙ map_same (λ o. filter (agree r) (items o)) (λ o. option_to_list (f r o)) post i)
      ∙ ap (λ m. option_to_list m ∷ map (λ o. option_to_list (f r o)) post) (sym own))
      ∙ sym (map-append (λ o. option_to_list (f r o)) pre (lead ∷ post))

  pub led_is : (pre : List O) (lead : O) (post : List O) → AllByRecursion (λ o. AllByRecursion P (items o)) pre → AllByRecursion (λ o. AllByRecursion P (items o)) post → AllByRecursion (Finds P agree items f pre lead post) (items lead)
      → Perm (matching agree (map items (pre ++ lead ∷ post))) (led f (pre ++ lead ∷ post) (items lead))
  led_is pre lead post in_pre in_post found =
      let us = map items pre in
      let vs = map items post in
      let C : X → List (List X) = λ r. combinations (us ++ (r ∷ []) ∷ vs) in
      chain (Perm-same _ _ (ap (λ l. filter (all_agree agree) (combinations l)) (map-append items pre (lead ∷ post))))
      (chain (Perm-filter (all_agree agree) (lead_first us (items lead) vs))
      (Perm-same _ _ (filter-flat_map (all_agree agree) C (items lead)
      ∙ flat_map_same (λ r. filter (all_agree agree) (C r)) (λ r. option_to_list (each_some (f r) (pre ++ lead ∷ post))) (items lead)
      (all_more (Finds P agree items f pre lead post) (λ r. filter (all_agree agree) (C r) ≡ option_to_list (each_some (f r) (pre ++ lead ∷ post))) one (items lead) found))))
    where
      one : (r : X) → Finds P agree items f pre lead post r → filter (all_agree agree) (combinations (map items pre ++ (r ∷ []) ∷ map items post)) ≡ option_to_list (each_some (f r) (pre ++ lead ∷ post))
      one r q =
          let us = map items pre in
          let vs = map items post in
          let in_us = AllByRecursion-map items (AllByRecursion P) pre in_pre in
          let in_vs = AllByRecursion-map items (AllByRecursion P) post in_post in
          let tuples = combinations (us ++ (r ∷ []) ∷ vs) in
          let typed = combined P (us ++ (r ∷ []) ∷ vs) (all_append (AllByRecursion P) us ((r ∷ []) ∷ vs) in_us ((q.leads.of, tt), in_vs)) in
          filter_same (all_agree agree) (list_all (agree r)) tuples
          (all_more (λ t. AllByRecursion P t × Around r t) (λ t. all_agree agree t ≡ list_all (agree r) t) (λ t h. by_lead P agree r q.leads t h.0 h.1) tuples (all_with (AllByRecursion P) (Around r) tuples typed (around P r us vs in_us in_vs)))
          ∙ combinations_kept (agree r) (us ++ (r ∷ []) ∷ vs)
          ∙ ap combinations (kept_each r pre lead post q.before q.behind q.leads.self q.own)
          ∙ combinations_of_options (f r) (pre ++ lead ∷ post)
