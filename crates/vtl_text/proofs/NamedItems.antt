-- Where items are found by name, and what one more item and one in place of another change.
use Rattle.std.proofs.Common.{◌≡◌, ℕ, zero, suc, ◌<◌, Bool, true, false, cond, ◌||◌, List, [], ◌∷◌, ◌++◌, length, get_or, set, Option, None, Some, is_some, refl, sym, ap, ◌∙◌, arith}
use Rattle.std.specs.BTreeMap.{BTreeMap, get_by}
use Rattle.std.specs.Cmp.Lexicographic.{nat_list_eq_equiv, slice_cmp, texts_ties}
use Rattle.std.specs.List.{list_any}
use Rattle.std.specs.Map.{keys_of, lookup, set_value}
use Rattle.std.specs.Option.{option_map, option_or}
use Rattle.std.specs.Ordering.{is_eq, nat_cmp}
use Rattle.std.proofs.lemmas.List.{map-append}
use Rattle.vtl_lists.specs.Apart.{all_apart}
use Rattle.vtl_text.specs.NamedItems.{AreNamed, FindsPlaces, place_of}
use Rattle.vtl_text.specs.Texts.{same_text}
use Rattle.vtl_text.proofs.Apart.{apart_popped, apart_push}

-- ---- an item in place of another, by any test of the names
module _ {K T : Type 0} (test : K → Bool) where
  -- where no name passes, nothing changes
  pub set_nowhere : (es : List (K × T)) (w : T) → lookup test es ≡ None → set_value test es w ≡ es
  set_nowhere [] w e = refl
  set_nowhere (x ∷ xs) w e = go (test x.0) (set_nowhere xs w) e
    where
      go : (b : Bool) → (lookup test xs ≡ None → set_value test xs w ≡ xs) → cond b (Some x.1) (lookup test xs) ≡ None → cond b ((x.0, w) ∷ xs) (x ∷ set_value test xs w) ≡ x ∷ xs
      go true ih e = cc
      go false ih e = ap (λ l. x ∷ l) (ih e)

  -- the last item that is put in a place stays
  pub set_twice : (es : List (K × T)) (v w : T) → set_value test (set_value test es v) w ≡ set_value test es w
  set_twice [] v w = refl
  set_twice (x ∷ xs) v w = go (test x.0) refl (set_twice xs v w)
    where
      go : (b : Bool) → test x.0 ≡ b → set_value test (set_value test xs v) w ≡ set_value test xs w
          → set_value test (cond b ((x.0, v) ∷ xs) (x ∷ set_value test xs v)) w ≡ cond b ((x.0, w) ∷ xs) (x ∷ set_value test xs w)
      go true e ih = ap (λ c. cond c ((x.0, w) ∷ xs) ((x.0, v) ∷ set_value test xs w)) e
      go false e ih = ap (λ c. cond c ((x.0, w) ∷ set_value test xs v) (x ∷ set_value test (set_value test xs v) w)) e ∙ ap (λ l. x ∷ l) ih

none : (o : Option ℕ) → is_some o ≡ false → o ≡ None
none None e = refl
none (Some j) e = cc

or_none : (o : Option ℕ) → option_or o None ≡ o
or_none None = refl
or_none (Some j) = refl

module _ {T : Type 0} where
  -- an item stands at the place of its name
  pub place_found : (name : List ℕ) (es : List (List ℕ × T)) (i : ℕ) → place_of name es ≡ Some i → (i < length es) × ((d : List ℕ × T) → lookup (same_text name) es ≡ Some (get_or es i d).1)
  place_found name [] i e = cc
  place_found name (x ∷ xs) i e = go (same_text name x.0) (place_of name xs) refl (place_found name xs) i e
    where
      go : (b : Bool) (o : Option ℕ) → place_of name xs ≡ o → ((j : ℕ) → place_of name xs ≡ Some j → (j < length xs) × ((d : List ℕ × T) → lookup (same_text name) xs ≡ Some (get_or xs j d).1))
          → (i : ℕ) → cond b (Some 0) (option_map suc o) ≡ Some i → (i < length (x ∷ xs)) × ((d : List ℕ × T) → cond b (Some x.1) (lookup (same_text name) xs) ≡ Some (get_or (x ∷ xs) i d).1)
      go true o q ih zero e = (omega arith, λ d. refl)
      go true o q ih (suc i) e = cc
      go false None q ih i e = cc
      go false (Some j) q ih zero e = cc
      go false (Some j) q ih (suc i) e =
          let same : j ≡ i = cc in
          let rest = ih i (q ∙ ap Some same) in
          (omega (arith, rest.0), rest.1)

  -- a name without a place has no item
  pub no_place : (name : List ℕ) (es : List (List ℕ × T)) → place_of name es ≡ None → lookup (same_text name) es ≡ None
  no_place name [] e = refl
  no_place name (x ∷ xs) e = go (same_text name x.0) (place_of name xs) refl (no_place name xs) e
    where
      go : (b : Bool) (o : Option ℕ) → place_of name xs ≡ o → (place_of name xs ≡ None → lookup (same_text name) xs ≡ None) → cond b (Some 0) (option_map suc o) ≡ None → cond b (Some x.1) (lookup (same_text name) xs) ≡ None
      go true o q ih e = cc
      go false None q ih e = ih q
      go false (Some j) q ih e = cc

  -- a name has a place where it is among the names
  pub place_of_key : (name : List ℕ) (es : List (List ℕ × T)) → is_some (place_of name es) ≡ list_any (same_text name) (keys_of es)
  place_of_key name [] = refl
  place_of_key name (x ∷ xs) = go (same_text name x.0) (place_of name xs) (place_of_key name xs)
    where
      go : (b : Bool) (o : Option ℕ) → is_some o ≡ list_any (same_text name) (keys_of xs) → is_some (cond b (Some 0) (option_map suc o)) ≡ (b || list_any (same_text name) (keys_of xs))
      go true o ih = refl
      go false None ih = ih
      go false (Some j) ih = ih

  -- ---- one more item
  place_push : (q name : List ℕ) (item : T) (es : List (List ℕ × T)) → place_of q (es ++ (name, item) ∷ []) ≡ option_or (place_of q es) (cond (same_text q name) (Some (length es)) None)
  place_push q name item [] = refl
  place_push q name item (x ∷ xs) = go (same_text q x.0) (place_of q xs) (same_text q name) (place_push q name item xs)
    where
      go : (b : Bool) (o : Option ℕ) (s : Bool) → place_of q (xs ++ (name, item) ∷ []) ≡ option_or o (cond s (Some (length xs)) None)
          → cond b (Some 0) (option_map suc (place_of q (xs ++ (name, item) ∷ []))) ≡ option_or (cond b (Some 0) (option_map suc o)) (cond s (Some (length (x ∷ xs))) None)
      go true o s ih = refl
      go false None true ih = ap (option_map suc) ih
      go false None false ih = ap (option_map suc) ih
      go false (Some j) s ih = ap (option_map suc) ih

  -- texts that are the same have one place
  place_like : (p q : List ℕ) → same_text p q ≡ true → (es : List (List ℕ × T)) → place_of p es ≡ place_of q es
  place_like p q s [] = refl
  place_like p q s (x ∷ xs) = ap (λ b. cond b (Some 0) (option_map suc (place_of p xs))) (nat_list_eq_equiv.congr p q x.0 s) ∙ ap (λ o. cond (same_text q x.0) (Some 0) (option_map suc o)) (place_like p q s xs)

  module _ (name : List ℕ) (item : T) (es : List (List ℕ × T)) (new : list_any (same_text name) (keys_of es) ≡ false) where
    place_put : (q : List ℕ) → place_of q (es ++ (name, item) ∷ []) ≡ cond (is_eq (slice_cmp nat_cmp name q)) (Some (length es)) (place_of q es)
    place_put q = go (same_text name q) refl
      where
        tie : is_eq (slice_cmp nat_cmp name q) ≡ same_text name q
        tie = sym (texts_ties name q)

        here : same_text q name ≡ same_text name q
        here = nat_list_eq_equiv.symm q name

        go : (b : Bool) → same_text name q ≡ b → place_of q (es ++ (name, item) ∷ []) ≡ cond (is_eq (slice_cmp nat_cmp name q)) (Some (length es)) (place_of q es)
        go true e =
            let absent = sym (place_like name q e es) ∙ none (place_of name es) (place_of_key name es ∙ new) in
            place_push q name item es ∙ ap (λ b. option_or (place_of q es) (cond b (Some (length es)) None)) (here ∙ e) ∙ ap (λ o. option_or o (Some (length es))) absent
            ∙ sym (ap (λ b. cond b (Some (length es)) (place_of q es)) (tie ∙ e))
        go false e =
            place_push q name item es ∙ ap (λ b. option_or (place_of q es) (cond b (Some (length es)) None)) (here ∙ e) ∙ or_none (place_of q es)
            ∙ sym (ap (λ b. cond b (Some (length es)) (place_of q es)) (tie ∙ e))

    -- the places of all names, with the one of a new name behind the others
    pub finds_put : (old grown : BTreeMap (List ℕ) ℕ) → FindsPlaces es old
        → ((q : List ℕ) → get_by (slice_cmp nat_cmp q) grown ≡ cond (is_eq (slice_cmp nat_cmp name q)) (Some (length es)) (get_by (slice_cmp nat_cmp q) old))
        → FindsPlaces (es ++ (name, item) ∷ []) grown
    finds_put old grown finds step q = step q ∙ ap (λ o. cond (is_eq (slice_cmp nat_cmp name q)) (Some (length es)) o) (finds q) ∙ sym (place_put q)

  -- ---- an item in place of another
  pub place_kept : (q : List ℕ) (test : List ℕ → Bool) (es : List (List ℕ × T)) (w : T) → place_of q (set_value test es w) ≡ place_of q es
  place_kept q test [] w = refl
  place_kept q test (x ∷ xs) w = go (test x.0) (place_kept q test xs w)
    where
      go : (b : Bool) → place_of q (set_value test xs w) ≡ place_of q xs → place_of q (cond b ((x.0, w) ∷ xs) (x ∷ set_value test xs w)) ≡ cond (same_text q x.0) (Some 0) (option_map suc (place_of q xs))
      go true ih = refl
      go false ih = ap (λ o. cond (same_text q x.0) (Some 0) (option_map suc o)) ih

  pub written_at : (name : List ℕ) (es : List (List ℕ × T)) (i : ℕ) (w : T) (d : List ℕ × T) → place_of name es ≡ Some i → set es i ((get_or es i d).0, w) ≡ set_value (same_text name) es w
  written_at name [] i w d e = cc
  written_at name (x ∷ xs) i w d e = go (same_text name x.0) (place_of name xs) refl (λ j. written_at name xs j w d) i e
    where
      go : (b : Bool) (o : Option ℕ) → place_of name xs ≡ o → ((j : ℕ) → place_of name xs ≡ Some j → set xs j ((get_or xs j d).0, w) ≡ set_value (same_text name) xs w)
          → (i : ℕ) → cond b (Some 0) (option_map suc o) ≡ Some i → set (x ∷ xs) i ((get_or (x ∷ xs) i d).0, w) ≡ cond b ((x.0, w) ∷ xs) (x ∷ set_value (same_text name) xs w)
      go true o q ih zero e = refl
      go true o q ih (suc i) e = cc
      go false None q ih i e = cc
      go false (Some j) q ih zero e = cc
      go false (Some j) q ih (suc i) e =
          let same : j ≡ i = cc in
          ap (λ l. x ∷ l) (ih i (q ∙ ap Some same))

  -- ---- what the code sees of them: the entries `inside` are those of the model
  module _ (name : List ℕ) (es inside : List (List ℕ × T)) (i : ℕ) (same : inside ≡ es) (at : Some i ≡ place_of name es) where
    pub place_within : i < length inside
    place_within = let h = (place_found name es i (sym at)).0 in omega (arith, h, ap length same)

    module _ (e : List ℕ × T) (is : e ≡ get_or inside i e) where
      pub item_found : Some e.1 ≡ lookup (same_text name) es
      item_found = ap (λ x. Some x.1) is ∙ ap (λ l. Some (get_or l i e).1) same ∙ sym ((place_found name es i (sym at)).1 e)

      pub item_written : (w : T) → set inside i (e.0, w) ≡ set_value (same_text name) es w
      item_written w = ap (λ x. set inside i (x.0, w)) is ∙ ap (λ l. set l i ((get_or l i e).0, w)) same ∙ written_at name es i w e (sym at)

      pub finds_written : (places : BTreeMap (List ℕ) ℕ) (w : T) → FindsPlaces inside places → FindsPlaces (set inside i (e.0, w)) places
      finds_written places w finds q = finds q ∙ ap (place_of q) same ∙ sym (ap (place_of q) (item_written w) ∙ place_kept q (same_text name) es w)

  pub finds_more : (name key : List ℕ) (item : T) (es roomy grown : List (List ℕ × T)) (n : ℕ) (old new : BTreeMap (List ℕ) ℕ) → list_any (same_text name) (keys_of es) ≡ false → FindsPlaces es old
      → key ≡ name → roomy ≡ es → n ≡ length roomy → grown ≡ roomy ++ (name, item) ∷ []
      → ((q : List ℕ) → get_by (slice_cmp nat_cmp q) new ≡ cond (is_eq (slice_cmp nat_cmp key q)) (Some n) (get_by (slice_cmp nat_cmp q) old))
      → FindsPlaces grown new
  finds_more name key item es roomy grown n old new absent finds copied same many put step q =
      finds_put name item es absent old new finds (λ r. step r ∙ ap (λ k. cond (is_eq (slice_cmp nat_cmp k r)) (Some n) (get_by (slice_cmp nat_cmp r) old)) copied
      ∙ ap (λ m. cond (is_eq (slice_cmp nat_cmp name r)) (Some m) (get_by (slice_cmp nat_cmp r) old)) (many ∙ ap length same)) q
      ∙ sym (ap (place_of q) (put ∙ ap (λ l. l ++ (name, item) ∷ []) same))

  keys_grown : (es : List (List ℕ × T)) (name : List ℕ) (item : T) → keys_of (es ++ (name, item) ∷ []) ≡ keys_of es ++ name ∷ []
  keys_grown es name item = map-append (λ e. e.0) es ((name, item) ∷ [])

  -- ---- names that differ stay so
  pub apart_more : (name : List ℕ) (item : T) (es grown : List (List ℕ × T)) → list_any (same_text name) (keys_of es) ≡ false → all_apart same_text (keys_of es) ≡ true
      → grown ≡ es ++ (name, item) ∷ [] → all_apart same_text (keys_of grown) ≡ true
  apart_more name item es grown absent apart is = ap (λ l. all_apart same_text (keys_of l)) is ∙ ap (all_apart same_text) (keys_grown es name item) ∙ apart_push (keys_of es) name apart absent

  keys_kept : (test : List ℕ → Bool) (es : List (List ℕ × T)) (w : T) → keys_of (set_value test es w) ≡ keys_of es
  keys_kept test [] w = refl
  keys_kept test (x ∷ xs) w = go (test x.0) (keys_kept test xs w)
    where
      go : (b : Bool) → keys_of (set_value test xs w) ≡ keys_of xs → keys_of (cond b ((x.0, w) ∷ xs) (x ∷ set_value test xs w)) ≡ x.0 ∷ keys_of xs
      go true ih = refl
      go false ih = ap (λ l. x.0 ∷ l) ih

  pub apart_kept : (test : List ℕ → Bool) (es written : List (List ℕ × T)) (w : T) → all_apart same_text (keys_of es) ≡ true → written ≡ set_value test es w → all_apart same_text (keys_of written) ≡ true
  apart_kept test es written w apart is = ap (λ l. all_apart same_text (keys_of l)) is ∙ ap (all_apart same_text) (keys_kept test es w) ∙ apart

  -- ---- without the last item
  pub named_popped : (name : List ℕ) (item : T) (es front : List (List ℕ × T)) (places shrunk : BTreeMap (List ℕ) ℕ) → AreNamed es places → es ≡ front ++ (name, item) ∷ []
      → ((q : List ℕ) → get_by (slice_cmp nat_cmp q) shrunk ≡ cond (is_eq (slice_cmp nat_cmp name q)) None (get_by (slice_cmp nat_cmp q) places))
      → AreNamed front shrunk
  named_popped name item es front places shrunk named is step = record { apart = parts.0; finds = found }
    where
      parts : (all_apart same_text (keys_of front) ≡ true) × (list_any (same_text name) (keys_of front) ≡ false)
      parts = apart_popped (keys_of front) name (sym (ap (λ l. all_apart same_text (keys_of l)) is ∙ ap (all_apart same_text) (keys_grown front name item)) ∙ named.apart)

      absent : place_of name front ≡ None
      absent = none (place_of name front) (place_of_key name front ∙ parts.1)

      found : FindsPlaces front shrunk
      found q = step q ∙ ap (cond (is_eq (slice_cmp nat_cmp name q)) None) (named.finds q ∙ ap (place_of q) is ∙ place_put name item front parts.1 q) ∙ go (is_eq (slice_cmp nat_cmp name q)) refl
        where
          go : (b : Bool) → is_eq (slice_cmp nat_cmp name q) ≡ b → cond b None (cond b (Some (length front)) (place_of q front)) ≡ place_of q front
          go true e = sym (sym (place_like name q (texts_ties name q ∙ e) front) ∙ absent)
          go false e = refl
