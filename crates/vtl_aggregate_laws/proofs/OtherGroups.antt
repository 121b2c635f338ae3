-- Grouping by all identifiers but some is grouping by the others.
use Rattle.std.proofs.Common.{◌≡◌, ℕ, Bool, true, false, not, cond, ◌&&◌, ◌||◌, List, [], ◌∷◌, refl, sym, ap, ◌∙◌, true≢false}
use Rattle.std.specs.List.{AllByRecursion, filter}
use Rattle.std.proofs.lemmas.Slice.Eq.{bytes_eq-Decides}
use Rattle.vtl_lists.proofs.Alls.{all_more}
use Rattle.vtl_tree.specs.Choices.{chosen, is_chosen, is_identifier}
use Rattle.vtl_tree.specs.Names.{is_among}
use Rattle.vtl_tree.specs.Structure.{names_of, same_name}
use Rattle.vtl_tree.specs.declared.choices.Choice.TheVariants as choice
use Rattle.vtl_tree.specs.declared.structure.Component.{Component}
use Rattle.vtl_tuples.proofs.Lists.{filter_same}

module _ (names : List (List ℕ)) where
  abbrev is_left : Component → Bool
  is_left x = is_chosen choice.Except names x

  abbrev HasName : List Component → Component → Type 0
  HasName xs x = is_left x ≡ true → is_among x.name (names_of (filter is_left xs)) ≡ true

  -- what is left has its name among those that are left
  named : (xs : List Component) → AllByRecursion (HasName xs) xs
  named [] = tt
  named (x ∷ xs) = (here, all_more (HasName xs) (HasName (x ∷ xs)) (λ z h e. later (is_left x) z (h e)) xs (named xs))
    where
      here : HasName (x ∷ xs) x
      here e =
          ap (λ b. is_among x.name (names_of (cond b (x ∷ filter is_left xs) (filter is_left xs)))) e
          ∙ ap (λ b. b || is_among x.name (names_of (filter is_left xs))) ((bytes_eq-Decides x.name x.name).1 refl)

      or_true : (a b : Bool) → b ≡ true → (a || b) ≡ true
      or_true true b e = refl
      or_true false b e = e

      later : (b : Bool) (z : Component) → is_among z.name (names_of (filter is_left xs)) ≡ true → is_among z.name (names_of (cond b (x ∷ filter is_left xs) (filter is_left xs))) ≡ true
      later true z e = or_true (same_name x.name z.name) (is_among z.name (names_of (filter is_left xs))) e
      later false z e = e

  -- and that is none of the others
  not_named : (xs : List Component) (name : List ℕ) → is_among name (names_of (filter is_left xs)) ≡ true → is_among name names ≡ false
  not_named [] name e = absurd (true≢false (sym e))
  not_named (x ∷ xs) name e = go (is_left x) refl e (not_named xs name)
    where
      second : (a b : Bool) → (a && not b) ≡ true → b ≡ false
      second true true f = sym f
      second true false f = refl
      second false b f = absurd (true≢false (sym f))

      go : (b : Bool) → is_left x ≡ b → is_among name (names_of (cond b (x ∷ filter is_left xs) (filter is_left xs))) ≡ true → (is_among name (names_of (filter is_left xs)) ≡ true → is_among name names ≡ false) → is_among name names ≡ false
      go false h f ih = ih f
      go true h f ih = one (same_name x.name name) refl f
        where
          one : (c : Bool) → same_name x.name name ≡ c → (c || is_among name (names_of (filter is_left xs))) ≡ true → is_among name names ≡ false
          one true g k = ap (λ n. is_among n names) (sym ((bytes_eq-Decides x.name name).0 g)) ∙ second (is_identifier x) (is_among x.name names) h
          one false g k = ih k

  pub except_is_by : (xs : List Component) → chosen choice.By (names_of (chosen choice.Except names xs)) xs ≡ chosen choice.Except names xs
  except_is_by xs = filter_same (is_chosen choice.By (names_of (filter is_left xs))) is_left xs (all_more (HasName xs) (λ x. is_chosen choice.By (names_of (filter is_left xs)) x ≡ is_left x) same xs (named xs))
    where
      table : (i n a : Bool) → ((i && not n) ≡ true → a ≡ true) → (a ≡ true → n ≡ false) → (i && a) ≡ (i && not n)
      table false n a f g = refl
      table true true true f g = absurd (true≢false (g refl))
      table true true false f g = refl
      table true false a f g = f refl

      same : (x : Component) → HasName xs x → is_chosen choice.By (names_of (filter is_left xs)) x ≡ is_left x
      same x h = table (is_identifier x) (is_among x.name names) (is_among x.name (names_of (filter is_left xs))) h (not_named xs x.name)
