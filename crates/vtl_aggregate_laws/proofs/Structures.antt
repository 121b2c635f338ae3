-- The structures of aggregates one after the other: which columns of the first the second names.
use Rattle.std.proofs.Common.{◌≡◌, ℕ, Bool, true, false, ◌&&◌, ◌||◌, cond, List, [], ◌∷◌, ◌++◌, map, Some, None, refl, sym, ap, ◌∙◌, subst, true≢false}
use Rattle.std.specs.List.{AllByRecursion, filter}
use Rattle.std.proofs.lemmas.Cmp.{nat_list_eq_equiv}
use Rattle.std.proofs.lemmas.List.Elements.{filter_passes, recursion_from_All}
use Rattle.std.proofs.lemmas.Slice.Eq.{bytes_eq-Decides}
use Rattle.vtl_lists.specs.Apart.{all_apart}
use Rattle.vtl_cell.specs.declared.operator.AggKind.{AggKind}
use Rattle.vtl_lists.proofs.Aparts.{apart_parts}
use Rattle.vtl_lists.proofs.Sorts.{AllByRecursion-filter}
use Rattle.vtl_lists.proofs.Alls.{all_more}
use Rattle.vtl_tree.specs.Structure.{IsStructure, columns_of, names_of, of_role, same_name, same_role}
use Rattle.vtl_tree.specs.declared.structure.Component.{Component}
use Rattle.vtl_tree.specs.declared.structure.Role.{Role}
use Rattle.vtl_tree.specs.declared.structure.Role.TheVariants as role
use Rattle.vtl_tree.specs.declared.structure.Structure.{Structure}
use Rattle.vtl_tree.specs.declared.specifications.AggItems.TheVariants as items
use Rattle.vtl_tree.specs.Choices.{chosen, is_identifier}
use Rattle.vtl_tree.specs.Columns.{identifiers_of, measures_of, others_of}
use Rattle.vtl_tree.specs.Measures.{given_measure, measures}
use Rattle.vtl_tree.specs.Names.{component_of, is_among}
use Rattle.vtl_tree.specs.declared.choices.Choice.TheVariants as choice
use Rattle.vtl_meaning.specs.AggregateShapes.{IsAggregated, made_components, of_measure}
use Rattle.vtl_meaning.proofs.Places.{columns_split}
use Rattle.vtl_aggregate_laws.specs.Parts.{grouped}

-- ---- names
pub both : (P : Component → Type 0) (xs ys : List Component) → AllByRecursion P xs → AllByRecursion P ys → AllByRecursion P (xs ++ ys)
both P [] ys h i = i
both P (x ∷ xs) ys h i = (h.0, both P xs ys h.1 i)

among_more : (name : List ℕ) (xs ys : List Component) → is_among name (names_of xs) ≡ true → is_among name (names_of (xs ++ ys)) ≡ true
among_more name [] ys e = absurd (true≢false (sym e))
among_more name (x ∷ xs) ys e = go (same_name x.name name) e (among_more name xs ys)
  where
    go : (b : Bool) → (b || is_among name (names_of xs)) ≡ true → (is_among name (names_of xs) ≡ true → is_among name (names_of (xs ++ ys)) ≡ true) → (b || is_among name (names_of (xs ++ ys))) ≡ true
    go true f ih = refl
    go false f ih = ih f

pub own_names : (xs : List Component) → AllByRecursion (λ x. is_among x.name (names_of xs) ≡ true) xs
own_names [] = tt
own_names (x ∷ xs) = (ap (λ b. b || is_among x.name (names_of xs)) ((bytes_eq-Decides x.name x.name).1 refl), all_more (λ y. is_among y.name (names_of xs) ≡ true) (λ y. is_among y.name (names_of (x ∷ xs)) ≡ true) (λ y e. or_true (same_name x.name y.name) (is_among y.name (names_of xs)) e) xs (own_names xs))
  where
    or_true : (a b : Bool) → b ≡ true → (a || b) ≡ true
    or_true true b e = refl
    or_true false b e = e

-- of components with distinct names, those of one role have none of the names of another
module _ (p q : Component → Bool) (other : (x : Component) → q x ≡ true → p x ≡ false) where
  abbrev NotAmong : List Component → Component → Type 0
  NotAmong xs y = is_among y.name (names_of xs) ≡ false

  one_of_others : (x : Component) (ys : List Component) → AllByRecursion (λ n. same_name x.name n ≡ false) (names_of ys) → is_among x.name (names_of (filter p ys)) ≡ false
  one_of_others x [] apart = refl
  one_of_others x (y ∷ ys) apart = go (p y) (one_of_others x ys apart.1)
    where
      go : (b : Bool) → is_among x.name (names_of (filter p ys)) ≡ false → is_among x.name (names_of (cond b (y ∷ filter p ys) (filter p ys))) ≡ false
      go true ih = ap (λ b. b || is_among x.name (names_of (filter p ys))) (nat_list_eq_equiv.symm y.name x.name ∙ apart.0) ∙ ih
      go false ih = ih

  one_more : (x : Component) (ys zs : List Component) → AllByRecursion (λ n. same_name x.name n ≡ false) (names_of zs) → AllByRecursion (NotAmong ys) (filter q zs) → AllByRecursion (NotAmong (x ∷ ys)) (filter q zs)
  one_more x ys [] apart all = tt
  one_more x ys (z ∷ zs) apart all = go (q z) all (one_more x ys zs apart.1)
    where
      go : (b : Bool) → AllByRecursion (NotAmong ys) (cond b (z ∷ filter q zs) (filter q zs)) → (AllByRecursion (NotAmong ys) (filter q zs) → AllByRecursion (NotAmong (x ∷ ys)) (filter q zs)) → AllByRecursion (NotAmong (x ∷ ys)) (cond b (z ∷ filter q zs) (filter q zs))
      go true h ih = (ap (λ b. b || is_among z.name (names_of ys)) apart.0 ∙ h.0, ih h.1)
      go false h ih = ih h

  names_differ : (xs : List Component) → all_apart same_name (names_of xs) ≡ true → AllByRecursion (NotAmong (filter p xs)) (filter q xs)
  names_differ [] e = tt
  names_differ (x ∷ xs) e = go (p x) refl (q x) refl (names_differ xs parts.1)
    where
      parts : AllByRecursion (λ n. same_name x.name n ≡ false) (names_of xs) × (all_apart same_name (names_of xs) ≡ true)
      parts = apart_parts same_name x.name (names_of xs) e

      go : (a : Bool) → p x ≡ a → (b : Bool) → q x ≡ b → AllByRecursion (NotAmong (filter p xs)) (filter q xs) → AllByRecursion (NotAmong (cond a (x ∷ filter p xs) (filter p xs))) (cond b (x ∷ filter q xs) (filter q xs))
      go true h true i ih = absurd (true≢false (sym h ∙ other x i))
      go true h false i ih = one_more x (filter p xs) xs parts.0 ih
      go false h true i ih = (one_of_others x xs parts.0, ih)
      go false h false i ih = ih

-- ---- roles
abbrev pub IsOther : Component → Type 0
IsOther x = is_identifier x ≡ false

measure_is_other : (x : Component) → same_role x.role role.Measure ≡ true → IsOther x
measure_is_other x e = go x.role e
  where
    go : (r : Role) → same_role r role.Measure ≡ true → same_role r role.Identifier ≡ false
    go role.Identifier h = cc
    go role.Measure h = refl
    go role.Attribute h = refl

attribute_is_other : (x : Component) → same_role x.role role.Attribute ≡ true → IsOther x
attribute_is_other x e = go x.role e
  where
    go : (r : Role) → same_role r role.Attribute ≡ true → same_role r role.Identifier ≡ false
    go role.Identifier h = cc
    go role.Measure h = refl
    go role.Attribute h = refl

of_its_role : (r : Role) (s : Structure) → AllByRecursion (λ x. same_role x.role r ≡ true) (of_role r s)
of_its_role r s = recursion_from_All (λ x. same_role x.role r ≡ true) (of_role r s) (filter_passes (λ x. same_role x.role r) s.components)

are_others : (s : Structure) → AllByRecursion IsOther (others_of s)
are_others s = both IsOther (of_role role.Measure s) (of_role role.Attribute s)
    (all_more (λ x. same_role x.role role.Measure ≡ true) IsOther measure_is_other (of_role role.Measure s) (of_its_role role.Measure s))
    (all_more (λ x. same_role x.role role.Attribute ≡ true) IsOther attribute_is_other (of_role role.Attribute s) (of_its_role role.Attribute s))

-- what holds of components that are no identifiers holds of the columns behind the identifiers
pub of_others : (P : Component → Type 0) (s : Structure) → AllByRecursion (λ x. IsOther x → P x) s.components → AllByRecursion P (others_of s)
of_others P s all = each (others_of s) (are_others s)
    (both (λ x. IsOther x → P x) (of_role role.Measure s) (of_role role.Attribute s) (AllByRecursion-filter (λ x. IsOther x → P x) (λ x. same_role x.role role.Measure) s.components all) (AllByRecursion-filter (λ x. IsOther x → P x) (λ x. same_role x.role role.Attribute) s.components all))
  where
    each : (xs : List Component) → AllByRecursion IsOther xs → AllByRecursion (λ x. IsOther x → P x) xs → AllByRecursion P xs
    each [] o h = tt
    each (x ∷ xs) o h = (h.0 o.0, each xs o.1 h.1)

-- components that are chosen by the names of identifiers are no others
pub chosen_other : (P : Component → Type 0) (names : List (List ℕ)) (xs : List Component) → AllByRecursion (λ x. IsOther x → P x) (chosen choice.By names xs)
chosen_other P names [] = tt
chosen_other P names (x ∷ xs) = go (is_identifier x) refl (is_among x.name names) (chosen_other P names xs)
  where
    go : (b : Bool) → is_identifier x ≡ b → (d : Bool) → AllByRecursion (λ y. IsOther y → P y) (chosen choice.By names xs) → AllByRecursion (λ y. IsOther y → P y) (cond (b && d) (x ∷ chosen choice.By names xs) (chosen choice.By names xs))
    go true e true ih = (λ o. absurd (true≢false (sym e ∙ o)), ih)
    go true e false ih = ih
    go false e d ih = ih

-- ---- identifiers that are found among columns are found among identifiers
found_other : (name : List ℕ) (xs : List Component) (y : Component) → AllByRecursion IsOther xs → component_of name xs ≡ Some y → IsOther y
found_other name [] y all e = cc
found_other name (x ∷ xs) y all e = go (same_name x.name name) e (found_other name xs y all.1)
  where
    go : (b : Bool) → cond b (Some x) (component_of name xs) ≡ Some y → (component_of name xs ≡ Some y → IsOther y) → IsOther y
    go true f ih =
        let same : x ≡ y = cc in
        subst IsOther same all.0
    go false f ih = ih f

found_identifier : (name : List ℕ) (ids xs : List Component) (y : Component) → AllByRecursion IsOther xs → is_identifier y ≡ true → component_of name (ids ++ xs) ≡ Some y → is_among name (names_of ids) ≡ true
found_identifier name [] xs y all i e = absurd (true≢false (sym i ∙ found_other name xs y all e))
found_identifier name (x ∷ ids) xs y all i e = go (same_name x.name name) e (found_identifier name ids xs y all i)
  where
    go : (b : Bool) → cond b (Some x) (component_of name (ids ++ xs)) ≡ Some y → (component_of name (ids ++ xs) ≡ Some y → is_among name (names_of ids) ≡ true) → (b || is_among name (names_of ids)) ≡ true
    go true f ih = refl
    go false f ih = ih f

-- ---- an aggregate of an aggregate
module _ (g : AggKind) (coarse : List (List ℕ)) (middle s : Structure) (i : IsAggregated (grouped g coarse) middle s) where
  -- it is grouped by identifiers of the first
  pub coarse_known : AllByRecursion (λ name. is_among name (names_of (identifiers_of middle)) ≡ true) coarse
  coarse_known =
      subst (λ names. AllByRecursion (λ name. is_among name (names_of (identifiers_of middle)) ≡ true) names) i.grouping
      (walk (identifiers_of s) (of_its_role role.Identifier s) i.identifiers)
    where
      walk : (ys : List Component) → AllByRecursion (λ y. same_role y.role role.Identifier ≡ true) ys → AllByRecursion (λ y. component_of y.name (columns_of middle) ≡ Some y) ys → AllByRecursion (λ name. is_among name (names_of (identifiers_of middle)) ≡ true) (names_of ys)
      walk [] own found = tt
      walk (y ∷ ys) own found = (found_identifier y.name (identifiers_of middle) (others_of middle) y (are_others middle) own.0 (ap (component_of y.name) (sym (columns_split middle)) ∙ found.0), walk ys own.1 found.1)

  -- a column that it makes has the name of a measure of the first, and of no identifier
  pub record IsMeasureOf (name : List ℕ) : Type 0 where
    pub measure : is_among name (names_of (others_of middle)) ≡ true
    pub no_identifier : is_among name (names_of (identifiers_of middle)) ≡ false

  measures_are : IsStructure middle → AllByRecursion (λ x. IsMeasureOf x.name) (measures_of middle)
  measures_are w = zip (measures_of middle) (own_names (measures_of middle)) (names_differ is_identifier (λ x. same_role x.role role.Measure) measure_is_other middle.components w.distinct)
    where
      zip : (xs : List Component) → AllByRecursion (λ x. is_among x.name (names_of (measures_of middle)) ≡ true) xs → AllByRecursion (λ x. is_among x.name (names_of (identifiers_of middle)) ≡ false) xs → AllByRecursion (λ x. IsMeasureOf x.name) xs
      zip [] a b = tt
      zip (x ∷ xs) a b = (record { measure = among_more x.name (measures_of middle) (of_role role.Attribute middle) a.0; no_identifier = b.0 }, zip xs a.1 b.1)

  given : (xs : List Component) → AllByRecursion (λ x. IsMeasureOf x.name) xs → AllByRecursion (λ x. IsOther x → IsMeasureOf x.name) (map (given_measure (of_measure g) None) xs)
  given [] all = tt
  given (x ∷ xs) all = (λ o. all.0, given xs all.1)

  pub columns_known : IsStructure middle → made_components (items.Measures g) middle.components ≡ map (given_measure (of_measure g) None) (measures middle.components) → AllByRecursion (λ y. IsMeasureOf y.name) (others_of s)
  columns_known w all =
      of_others (λ y. IsMeasureOf y.name) s
      (subst (AllByRecursion (λ y. IsOther y → IsMeasureOf y.name)) (sym (i.shape ∙ ap (λ l. chosen choice.By coarse middle.components ++ l) all))
      (both (λ y. IsOther y → IsMeasureOf y.name) (chosen choice.By coarse middle.components) (map (given_measure (of_measure g) None) (measures middle.components)) (chosen_other (λ y. IsMeasureOf y.name) coarse middle.components) (given (measures_of middle) (measures_are w))))
