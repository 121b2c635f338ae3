-- Numbers and places by name: what one more entry and one in place of another change.
use Rattle.std.proofs.Common.{◌≡◌, ℕ, ◌+◌, ◌-◌, Bool, true, false, cond, ◌||◌, List, [], ◌∷◌, ◌++◌, Option, Some, None, refl, sym, ap, ◌∙◌, unwrap_or, append-nil}
use Rattle.std.specs.Cmp.Lexicographic.{nat_list_eq_equiv}
use Rattle.std.specs.List.{list_any}
use Rattle.std.specs.Map.{keys_of, lookup, set_value}
use Rattle.std.specs.Option.{IsSome, option_or}
use Rattle.std.proofs.lemmas.Map.{lookup-set_value}
use Rattle.vtl_text.specs.Texts.{same_text}
use Rattle.vtl_text.proofs.NamedItems.{set_nowhere, set_twice}
use Rattle.check_rules.specs.Running.{count_at, places_at}

module _ {T : Type 0} where
  -- names that are the same have one entry
  pub alike : (q name : List ℕ) (es : List (List ℕ × T)) → same_text q name ≡ true → lookup (same_text q) es ≡ lookup (same_text name) es
  alike q name [] s = refl
  alike q name (e ∷ es) s =
      ap (λ b. cond b (Some e.1) (lookup (same_text q) es)) (nat_list_eq_equiv.congr q name e.0 s)
      ∙ ap (λ o. cond (same_text name e.0) (Some e.1) o) (alike q name es s)

  pub absent : (name : List ℕ) (es : List (List ℕ × T)) → lookup (same_text name) es ≡ None → list_any (same_text name) (keys_of es) ≡ false
  absent name [] e = refl
  absent name (x ∷ xs) e = go (same_text name x.0) (absent name xs) e
    where
      go : (b : Bool) → (lookup (same_text name) xs ≡ None → list_any (same_text name) (keys_of xs) ≡ false) → cond b (Some x.1) (lookup (same_text name) xs) ≡ None → (b || list_any (same_text name) (keys_of xs)) ≡ false
      go true ih e = cc
      go false ih e = ih e

  found_put : (q name : List ℕ) (item : T) (es : List (List ℕ × T)) → lookup (same_text q) (es ++ (name, item) ∷ []) ≡ option_or (lookup (same_text q) es) (cond (same_text q name) (Some item) None)
  found_put q name item [] = refl
  found_put q name item (x ∷ xs) = go (same_text q x.0) (found_put q name item xs)
    where
      go : (b : Bool) → lookup (same_text q) (xs ++ (name, item) ∷ []) ≡ option_or (lookup (same_text q) xs) (cond (same_text q name) (Some item) None)
          → cond b (Some x.1) (lookup (same_text q) (xs ++ (name, item) ∷ [])) ≡ option_or (cond b (Some x.1) (lookup (same_text q) xs)) (cond (same_text q name) (Some item) None)
      go true h = refl
      go false h = h

  or_none : (o : Option T) → option_or o None ≡ o
  or_none None = refl
  or_none (Some x) = refl

  -- what stands at a name, where an entry is new
  pub at_put : (d : T) (q name : List ℕ) (item : T) (es : List (List ℕ × T)) → lookup (same_text name) es ≡ None
      → unwrap_or (lookup (same_text q) (es ++ (name, item) ∷ [])) d ≡ cond (same_text q name) item (unwrap_or (lookup (same_text q) es) d)
  at_put d q name item es e = ap (λ o. unwrap_or o d) (found_put q name item es) ∙ go (same_text q name) refl
    where
      go : (b : Bool) → same_text q name ≡ b → unwrap_or (option_or (lookup (same_text q) es) (cond b (Some item) None)) d ≡ cond b item (unwrap_or (lookup (same_text q) es) d)
      go true s = ap (λ o. unwrap_or (option_or o (Some item)) d) (alike q name es s ∙ e)
      go false s = ap (λ o. unwrap_or o d) (or_none (lookup (same_text q) es))

  some_is : (o : Option T) (x : T) → o ≡ Some x → IsSome o
  some_is None x e = cc
  some_is (Some y) x e = refl

  -- and where it is in place of another
  pub at_set : (d : T) (q name : List ℕ) (item : T) (es : List (List ℕ × T)) (was : T) → lookup (same_text name) es ≡ Some was
      → unwrap_or (lookup (same_text q) (set_value (same_text name) es item)) d ≡ cond (same_text q name) item (unwrap_or (lookup (same_text q) es) d)
  at_set d q name item es was e =
      ap (λ o. unwrap_or o d) (lookup-set_value nat_list_eq_equiv (same_text name) (λ x y s. nat_list_eq_equiv.congr name x y s) q item es (some_is (lookup (same_text name) es) was e))
      ∙ ap (λ b. unwrap_or (cond b (Some item) (lookup (same_text q) es)) d) (nat_list_eq_equiv.symm name q)
      ∙ go (same_text q name)
    where
      go : (b : Bool) → unwrap_or (cond b (Some item) (lookup (same_text q) es)) d ≡ cond b item (unwrap_or (lookup (same_text q) es) d)
      go true = refl
      go false = refl

-- ---- numbers
module _ (item : List ℕ) (old new : List (List ℕ × ℕ)) where
  here : (q : List ℕ) (n : ℕ) (f : ℕ → ℕ) → lookup (same_text item) old ≡ Some n → cond (same_text q item) (f n) (count_at q old) ≡ cond (same_text q item) (f (count_at q old)) (count_at q old)
  here q n f e = go (same_text q item) refl
    where
      go : (b : Bool) → same_text q item ≡ b → cond b (f n) (count_at q old) ≡ cond b (f (count_at q old)) (count_at q old)
      go true s = ap (λ o. f (unwrap_or o 0)) (sym (alike q item old s ∙ e))
      go false s = refl

  pub counted_again : (n : ℕ) (f : ℕ → ℕ) → lookup (same_text item) old ≡ Some n → new ≡ set_value (same_text item) old (f n)
      → (q : List ℕ) → count_at q new ≡ cond (same_text q item) (f (count_at q old)) (count_at q old)
  counted_again n f e put q = ap (λ es. count_at q es) put ∙ at_set 0 q item (f n) old n e ∙ here q n f e

  pub counted_first : lookup (same_text item) old ≡ None → new ≡ old ++ (item, 1) ∷ [] → (q : List ℕ) → count_at q new ≡ cond (same_text q item) (count_at q old + 1) (count_at q old)
  counted_first e put q = ap (λ es. count_at q es) put ∙ at_put 0 q item 1 old e ∙ go (same_text q item) refl
    where
      go : (b : Bool) → same_text q item ≡ b → cond b 1 (count_at q old) ≡ cond b (count_at q old + 1) (count_at q old)
      go true s = ap (λ o. unwrap_or o 0 + 1) (sym (alike q item old s ∙ e))
      go false s = refl

  -- one less than none is none
  pub counted_none : lookup (same_text item) old ≡ None → new ≡ old → (q : List ℕ) → count_at q new ≡ cond (same_text q item) (count_at q old - 1) (count_at q old)
  counted_none e same q = ap (λ es. count_at q es) same ∙ go (same_text q item) refl
    where
      go : (b : Bool) → same_text q item ≡ b → count_at q old ≡ cond b (count_at q old - 1) (count_at q old)
      go true s = let zero_here : count_at q old ≡ 0 = ap (λ o. unwrap_or o 0) (alike q item old s ∙ e) in zero_here ∙ ap (λ n. n - 1) (sym zero_here)
      go false s = refl

  pub counted_nothing : (n : ℕ) → lookup (same_text item) old ≡ Some n → n ≡ 0 → new ≡ old → (q : List ℕ) → count_at q new ≡ cond (same_text q item) (count_at q old - 1) (count_at q old)
  counted_nothing n e z same q = ap (λ es. count_at q es) same ∙ go (same_text q item) refl
    where
      go : (b : Bool) → same_text q item ≡ b → count_at q old ≡ cond b (count_at q old - 1) (count_at q old)
      go true s = let zero_here : count_at q old ≡ 0 = ap (λ o. unwrap_or o 0) (alike q item old s ∙ e) ∙ z in zero_here ∙ ap (λ n. n - 1) (sym zero_here)
      go false s = refl

-- ---- places
module _ (item : List ℕ) (place : ℕ) (old new : List (List ℕ × List ℕ)) where
  pub noted_again : (were taken now : List ℕ) (between : List (List ℕ × List ℕ)) → Some were ≡ lookup (same_text item) old → between ≡ set_value (same_text item) old [] → taken ≡ were → now ≡ taken ++ place ∷ []
      → new ≡ set_value (same_text item) between now → (q : List ℕ) → places_at q new ≡ places_at q old ++ cond (same_text q item) (place ∷ []) []
  noted_again were taken now between e first same more put q =
      ap (λ es. places_at q es) (put ∙ ap (λ es. set_value (same_text item) es now) first ∙ set_twice (same_text item) old [] now)
      ∙ at_set [] q item now old were (sym e) ∙ go (same_text q item) refl
    where
      go : (b : Bool) → same_text q item ≡ b → cond b now (places_at q old) ≡ places_at q old ++ cond b (place ∷ []) []
      go true s = more ∙ ap (λ l. l ++ place ∷ []) (same ∙ ap (λ o. unwrap_or o []) (e ∙ sym (alike q item old s)))
      go false s = sym (append-nil (places_at q old))

  pub noted_first : (now : List ℕ) (between : List (List ℕ × List ℕ)) → None ≡ lookup (same_text item) old → between ≡ set_value (same_text item) old [] → now ≡ place ∷ []
      → new ≡ between ++ (item, now) ∷ [] → (q : List ℕ) → places_at q new ≡ places_at q old ++ cond (same_text q item) (place ∷ []) []
  noted_first now between e first one put q =
      ap (λ es. places_at q es) (put ∙ ap (λ es. es ++ (item, now) ∷ []) (first ∙ set_nowhere (same_text item) old [] (sym e)))
      ∙ at_put [] q item now old (sym e) ∙ go (same_text q item) refl
    where
      go : (b : Bool) → same_text q item ≡ b → cond b now (places_at q old) ≡ places_at q old ++ cond b (place ∷ []) []
      go true s = one ∙ ap (λ l. l ++ place ∷ []) (ap (λ o. unwrap_or o []) (e ∙ sym (alike q item old s)))
      go false s = sym (append-nil (places_at q old))

  pub unnoted : (between : List (List ℕ × List ℕ)) → None ≡ lookup (same_text item) old → between ≡ set_value (same_text item) old [] → list_any (same_text item) (keys_of between) ≡ false
  unnoted between e first = ap (λ es. list_any (same_text item) (keys_of es)) (first ∙ set_nowhere (same_text item) old [] (sym e)) ∙ absent item old (sym e)
