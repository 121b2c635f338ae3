-- Tuples by keys, one list after the other.
use Rattle.std.proofs.Common.{◌≡◌, List, [], ◌∷◌, ◌++◌, Bool, true, false, not, ◌||◌, cond, map, Option, Some, None, refl, sym, ap, ◌∙◌, subst, append_assoc, true≢false}
use Rattle.std.specs.List.{AllByRecursion, filter, flat_map, list_any}
use Rattle.std.specs.Option.{option_and_then, option_map_or}
use Rattle.std.proofs.lemmas.Grind.{flat_map-append}
use Rattle.std.proofs.lemmas.List.{append-nil, map-append}
use Rattle.std.proofs.lemmas.List.Folds.{list_any-append}
use Rattle.vtl_lists.specs.Apart.{all_apart}
use Rattle.vtl_lists.proofs.Aparts.{apart_parts}
use Rattle.vtl_tuples.specs.Keys.{each_once, filled, filled_with, has_key, item_at, items_at, key_in, keys_of}
use Rattle.vtl_tuples.specs.Tuples.{front_part, led_or_none, led_with}
use Rattle.vtl_tuples.proofs.Lists.{filter-map, filter_each, map-map, map_same}
use Rattle.vtl_tuples.proofs.Onces.{among_once, once_already, once_more}

-- ---- from the first list
pub led_more : {X O : Type 0} (f : X → O → Option X) (lead : O) (os : List O) (o : O) (xs : List X) → AllByRecursion (λ x. f x lead ≡ Some x) xs → led_or_none f (lead ∷ os ++ o ∷ []) xs ≡ led_with f (led_or_none f (lead ∷ os) xs) o
led_more {X = X} f lead os o xs own =
    map_same (λ x. map (f x) (lead ∷ os ++ o ∷ [])) (λ x. map (f x) (lead ∷ os) ++ option_and_then (λ y. f y o) (f x lead) ∷ []) xs (each xs own)
    ∙ sym (map-map (λ t. t ++ option_and_then (λ x. f x o) (front_part t) ∷ []) (λ x. map (f x) (lead ∷ os)) xs)
  where
    each : (ys : List X) → AllByRecursion (λ x. f x lead ≡ Some x) ys → AllByRecursion (λ x. map (f x) (lead ∷ os ++ o ∷ []) ≡ map (f x) (lead ∷ os) ++ option_and_then (λ y. f y o) (f x lead) ∷ []) ys
    each [] all = tt
    each (x ∷ ys) all =
        (map-append (f x) (lead ∷ os) (o ∷ []) ∙ ap (λ m. map (f x) (lead ∷ os) ++ option_and_then (λ y. f y o) m ∷ []) (sym all.0), each ys all.1)

-- ---- keys
module _ {K : Type 0} (same : K → K → Bool) (is : (j k : K) → same j k ≡ true → j ≡ k) (self : (k : K) → same k k ≡ true) where
  among_keys : (ks : List K) (j : K) → list_any (λ k. same k j) (each_once same ks) ≡ list_any (λ k. same k j) ks
  among_keys ks j = among_once same (λ i h k e. ap (λ z. same z h) (is k i e)) ks j

  module _ {X : Type 0} (key : X → K) where
    -- an item is found exactly at the keys that there are
    found_key : (xs : List X) (k : K) → option_map_or (λ x. same (key x) k) (item_at same key xs k) false ≡ list_any (λ j. same j k) (map key xs)
    found_key [] k = refl
    found_key (x ∷ xs) k = go (same (key x) k) refl (found_key xs k)
      where
        go : (b : Bool) → same (key x) k ≡ b → option_map_or (λ y. same (key y) k) (item_at same key xs k) false ≡ list_any (λ j. same j k) (map key xs) → option_map_or (λ y. same (key y) k) (cond b (Some x) (item_at same key xs k)) false ≡ (b || list_any (λ j. same j k) (map key xs))
        go true e ih = e
        go false e ih = ih

    missing : (xs : List X) (k : K) → list_any (λ j. same j k) (map key xs) ≡ false → item_at same key xs k ≡ None
    missing [] k e = refl
    missing (x ∷ xs) k e = go (same (key x) k) e (missing xs k)
      where
        go : (b : Bool) → (b || list_any (λ j. same j k) (map key xs)) ≡ false → (list_any (λ j. same j k) (map key xs) ≡ false → item_at same key xs k ≡ None) → cond b (Some x) (item_at same key xs k) ≡ None
        go true e f = absurd (true≢false e)
        go false e f = f e

    -- an item at a key has it
    at_key : (xs : List X) (k : K) (x : X) → item_at same key xs k ≡ Some x → key x ≡ k
    at_key [] k x e = cc
    at_key (y ∷ xs) k x e = go (same (key y) k) refl e (at_key xs k x)
      where
        go : (b : Bool) → same (key y) k ≡ b → cond b (Some y) (item_at same key xs k) ≡ Some x → (item_at same key xs k ≡ Some x → key x ≡ k) → key x ≡ k
        go true h e ih = let s : y ≡ x = cc in ap key (sym s) ∙ is (key y) k h
        go false h e ih = ih e

    none_at : (xss : List (List X)) (k : K) → list_any (λ j. same j k) (flat_map (map key) xss) ≡ false → items_at same key xss k ≡ map (λ ys. None) xss
    none_at [] k e = refl
    none_at (xs ∷ xss) k e =
        let h = neither (list_any (λ j. same j k) (map key xs)) (list_any (λ j. same j k) (flat_map (map key) xss)) (sym (list_any-append (λ j. same j k) (map key xs) (flat_map (map key) xss)) ∙ e) in
        ap (λ m. m ∷ items_at same key xss k) (missing xs k h.0) ∙ ap (λ l. None ∷ l) (none_at xss k h.1)
      where
        neither : (a b : Bool) → (a || b) ≡ false → (a ≡ false) × (b ≡ false)
        neither true b e = absurd (true≢false e)
        neither false b e = (refl, e)

    -- the key of a tuple
    key_found : (xss : List (List X)) (k : K) → list_any (λ j. same j k) (flat_map (map key) xss) ≡ true → key_in key (items_at same key xss k) ≡ Some k
    key_found [] k e = absurd (true≢false (sym e))
    key_found (xs ∷ xss) k e = go (item_at same key xs k) refl (key_found xss k)
      where
        go : (m : Option X) → item_at same key xs k ≡ m → (list_any (λ j. same j k) (flat_map (map key) xss) ≡ true → key_in key (items_at same key xss k) ≡ Some k) → key_in key (m ∷ items_at same key xss k) ≡ Some k
        go (Some x) h ih = ap Some (at_key xs k x h)
        go None h ih =
            let gone : list_any (λ j. same j k) (map key xs) ≡ false = sym (found_key xs k) ∙ ap (λ m. option_map_or (λ x. same (key x) k) m false) h in
            ih (sym (ap (λ b. b || list_any (λ j. same j k) (flat_map (map key) xss)) gone) ∙ sym (list_any-append (λ j. same j k) (map key xs) (flat_map (map key) xss)) ∙ e)

    -- an item is found at its own key
    own_key : (xs : List X) → all_apart same (map key xs) ≡ true → AllByRecursion (λ x. item_at same key xs (key x) ≡ Some x) xs
    own_key [] e = tt
    own_key (x ∷ xs) e =
        let parts = apart_parts same (key x) (map key xs) e in
        (ap (λ b. cond b (Some x) (item_at same key xs (key x))) (self (key x)), later xs parts.0 (own_key xs parts.1))
      where
        later : (ys : List X) → AllByRecursion (λ j. same (key x) j ≡ false) (map key ys) → AllByRecursion (λ y. item_at same key xs (key y) ≡ Some y) ys → AllByRecursion (λ y. item_at same key (x ∷ xs) (key y) ≡ Some y) ys
        later [] h i = tt
        later (y ∷ ys) h i = (ap (λ b. cond b (Some x) (item_at same key xs (key y))) h.0 ∙ i.0, later ys h.1 i.1)

    -- each key of a list is among them
    each_among : (ks : List K) → AllByRecursion (λ k. list_any (λ j. same j k) ks ≡ true) ks
    each_among ks = go [] ks
      where
        last : (front : List K) (k : K) (back : List K) → list_any (λ j. same j k) (front ++ k ∷ back) ≡ true
        last [] k back = ap (λ b. b || list_any (λ j. same j k) back) (self k)
        last (i ∷ front) k back = ap (λ b. same i k || b) (last front k back) ∙ either_true (same i k)
          where
            either_true : (b : Bool) → (b || true) ≡ true
            either_true true = refl
            either_true false = refl

        go : (front back : List K) → AllByRecursion (λ k. list_any (λ j. same j k) (front ++ back) ≡ true) back
        go front [] = tt
        go front (k ∷ back) = (last front k back, subst (λ l. AllByRecursion (λ k. list_any (λ j. same j k) l ≡ true) back) (append_assoc front (k ∷ []) back) (go (front ++ k ∷ []) back))

    all_weaker : (P Q : K → Type 0) → ((k : K) → P k → Q k) → (ks : List K) → AllByRecursion P ks → AllByRecursion Q ks
    all_weaker P Q f [] all = tt
    all_weaker P Q f (k ∷ ks) all = (f k all.0, all_weaker P Q f ks all.1)

    domain_keys : (xss : List (List X)) → AllByRecursion (λ k. key_in key (items_at same key xss k) ≡ Some k) (keys_of same key xss)
    domain_keys xss =
        let ks = keys_of same key xss in
        all_weaker (λ k. list_any (λ j. same j k) ks ≡ true) (λ k. key_in key (items_at same key xss k) ≡ Some k)
        (λ k e. key_found xss k (sym (among_keys (flat_map (map key) xss) k) ∙ e)) ks (each_among ks)

    -- whether a tuple has a key
    any_tuple : (xss : List (List X)) (k : K) → list_any (has_key same key k) (filled same key xss) ≡ list_any (λ j. same j k) (flat_map (map key) xss)
    any_tuple xss k = tuples (keys_of same key xss) (domain_keys xss) ∙ among_keys (flat_map (map key) xss) k
      where
        tuples : (ks : List K) → AllByRecursion (λ j. key_in key (items_at same key xss j) ≡ Some j) ks → list_any (has_key same key k) (map (items_at same key xss) ks) ≡ list_any (λ j. same j k) ks
        tuples [] all = refl
        tuples (j ∷ ks) all = ap (λ m. option_map_or (λ i. same i k) m false || list_any (has_key same key k) (map (items_at same key xss) ks)) all.0 ∙ ap (λ b. same j k || b) (tuples ks all.1)

    pub filled_more : (xss : List (List X)) (xs : List X) → all_apart same (map key xs) ≡ true → filled same key (xss ++ xs ∷ []) ≡ filled_with same key xss (filled same key xss) xs
    filled_more xss xs apart =
        let ks = flat_map (map key) xss in
        let new : X → Bool = λ x. not (list_any (λ j. same j (key x)) ks) in
        let T = items_at same key xss in
        ap (λ l. map (items_at same key (xss ++ xs ∷ [])) (each_once same l)) (flat_map-append (map key) xss (xs ∷ []) ∙ ap (λ l. ks ++ l) (append-nil (map key xs)))
        ∙ ap (map (items_at same key (xss ++ xs ∷ []))) (once_more same ks (map key xs) ∙ ap (λ l. each_once same ks ++ filter (λ j. not (list_any (λ k. same k j) ks)) l) (once_already same (map key xs) apart) ∙ ap (λ l. each_once same ks ++ l) (filter-map (λ j. not (list_any (λ k. same k j) ks)) key xs))
        ∙ map-append (items_at same key (xss ++ xs ∷ [])) (each_once same ks) (map key (filter new xs))
        ∙ ap (λ l. l ++ map (items_at same key (xss ++ xs ∷ [])) (map key (filter new xs)))
        (map_same (items_at same key (xss ++ xs ∷ [])) (λ k. T k ++ option_and_then (item_at same key xs) (key_in key (T k)) ∷ []) (each_once same ks)
        (all_weaker (λ k. key_in key (T k) ≡ Some k) (λ k. items_at same key (xss ++ xs ∷ []) k ≡ T k ++ option_and_then (item_at same key xs) (key_in key (T k)) ∷ [])
        (λ k e. map-append (λ ys. item_at same key ys k) xss (xs ∷ []) ∙ ap (λ m. T k ++ option_and_then (item_at same key xs) m ∷ []) (sym e)) (each_once same ks) (domain_keys xss))
        ∙ sym (map-map (λ t. t ++ option_and_then (item_at same key xs) (key_in key t) ∷ []) T (each_once same ks)))
        ∙ ap (λ l. map (λ t. t ++ option_and_then (item_at same key xs) (key_in key t) ∷ []) (filled same key xss) ++ l)
        (map-map (items_at same key (xss ++ xs ∷ [])) key (filter new xs)
        ∙ map_same (λ x. items_at same key (xss ++ xs ∷ []) (key x)) (λ x. map (λ ys. None) xss ++ Some x ∷ []) (filter new xs) (fresh xs (own_key xs apart))
        ∙ ap (map (λ x. map (λ ys. None) xss ++ Some x ∷ [])) (filter_each new (λ x. not (list_any (has_key same key (key x)) (filled same key xss))) (λ x. ap not (sym (any_tuple xss (key x)))) xs))
      where
        negative : (b : Bool) → not b ≡ true → b ≡ false
        negative true e = sym e
        negative false e = refl

        fresh_if : (x : X) (b : Bool) (l : List X) → not (list_any (λ j. same j (key x)) (flat_map (map key) xss)) ≡ b → item_at same key xs (key x) ≡ Some x
            → AllByRecursion (λ x. items_at same key (xss ++ xs ∷ []) (key x) ≡ map (λ ys. None) xss ++ Some x ∷ []) l → AllByRecursion (λ x. items_at same key (xss ++ xs ∷ []) (key x) ≡ map (λ ys. None) xss ++ Some x ∷ []) (cond b (x ∷ l) l)
        fresh_if x true l e own all =
            (map-append (λ ys. item_at same key ys (key x)) xss (xs ∷ []) ∙ ap (λ m. items_at same key xss (key x) ++ m ∷ []) own ∙ ap (λ t. t ++ Some x ∷ []) (none_at xss (key x) (negative (list_any (λ j. same j (key x)) (flat_map (map key) xss)) e)), all)
        fresh_if x false l e own all = all

        fresh : (ys : List X) → AllByRecursion (λ x. item_at same key xs (key x) ≡ Some x) ys → AllByRecursion (λ x. items_at same key (xss ++ xs ∷ []) (key x) ≡ map (λ zs. None) xss ++ Some x ∷ []) (filter (λ x. not (list_any (λ j. same j (key x)) (flat_map (map key) xss))) ys)
        fresh [] all = tt
        fresh (y ∷ ys) all = fresh_if y (not (list_any (λ j. same j (key y)) (flat_map (map key) xss))) (filter (λ x. not (list_any (λ j. same j (key x)) (flat_map (map key) xss))) ys) refl all.0 (fresh ys all.1)
