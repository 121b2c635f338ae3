-- The structure that typing gives fits: its columns are those that aggregates make.
use Rattle.std.proofs.Common.{◌≡◌, ℕ, Bool, true, false, ◌&&◌, cond, List, [], ◌∷◌, ◌++◌, map, Option, Some, None, refl, sym, ap, ◌∙◌, subst}
use Rattle.std.specs.Prelude.{IsSome, option_and_then, option_map, unwrap_or}
use Rattle.std.specs.List.{AllByRecursion, filter, find}
use Rattle.std.proofs.lemmas.List.{append-nil, map-append}
use Rattle.std.proofs.lemmas.List.Elements.{filter-append}
use Rattle.std.proofs.lemmas.Cmp.{nat_list_eq_equiv}
use Rattle.vtl_lists.specs.Apart.{all_apart}
use Rattle.vtl_cell.specs.declared.kind.Kind.{Kind}
use Rattle.vtl_cell.specs.declared.kind.Kind.TheVariants as k
use Rattle.vtl_cell.specs.declared.operator.AggKind.{AggKind}
use Rattle.vtl_cell.specs.declared.operator.AggKind.TheVariants as agg
use Rattle.vtl_lists.proofs.Aparts.{all_apart-Perm, apart_parts}
use Rattle.vtl_lists.proofs.Perms.{AllByRecursion-Perm, Perm-map}
use Rattle.vtl_lists.proofs.Sorts.{AllByRecursion-filter}
use Rattle.vtl_lists.proofs.Alls.{all_more}
use Rattle.vtl_lists.proofs.Filters.{filter_all, filter_none}
use Rattle.vtl_cell.specs.AggregateKinds.{aggregate_kind}
use Rattle.vtl_tree.specs.Structure.{IsStructure, columns_of, names_of, of_role, same_name, same_role}
use Rattle.vtl_tree.specs.declared.structure.Component.{Component}
use Rattle.vtl_tree.specs.declared.structure.Role.{Role}
use Rattle.vtl_tree.specs.declared.structure.Role.TheVariants as role
use Rattle.vtl_tree.specs.declared.structure.Structure.{Structure}
use Rattle.vtl_tree.specs.Trees.{AggTree}
use Rattle.vtl_tree.specs.declared.specifications.AggItems.{AggItems}
use Rattle.vtl_tree.specs.declared.specifications.AggItems.TheVariants as items
use Rattle.vtl_tree.specs.declared.specifications.AggTarget.{AggTarget}
use Rattle.vtl_tree.specs.Choices.{chosen, is_chosen, is_identifier}
use Rattle.vtl_tree.specs.Columns.{identifiers_of}
use Rattle.vtl_tree.specs.Measures.{given_measure, is_measure, measures}
use Rattle.vtl_tree.specs.Names.{component_of, is_among}
use Rattle.vtl_tree.specs.declared.choices.Choice.TheVariants as choice
use Rattle.vtl_tree.proofs.NotNullLemmas.{same_itself}
use Rattle.vtl_meaning.specs.Aggregates.{measure_call, target_named}
use Rattle.vtl_meaning.specs.AggregateShapes.{AreTaken, IsAggregated, IsMadeColumn, IsTypedAggregate, given_kind, given_of, made_components, of_measure, target_component}
use Rattle.vtl_meaning.proofs.AnalyticColumns.{by_roles}
use Rattle.vtl_meaning.proofs.AnalyticShaped.{no_measure}
use Rattle.vtl_meaning.proofs.Places.{same_name-is, same_name-sym}

-- ---- names
-- of items with distinct names each is found by its own
module _ {X : Type 0} (name : X → List ℕ) where
  abbrev by_name : List ℕ → List X → Option X
  by_name n xs = find (λ x. same_name (name x) n) xs

  later : (x : X) (xs ys : List X) → AllByRecursion (λ n. same_name (name x) n ≡ false) (map name ys) → AllByRecursion (λ y. by_name (name y) xs ≡ Some y) ys → AllByRecursion (λ y. by_name (name y) (x ∷ xs) ≡ Some y) ys
  later x xs [] apart all = tt
  later x xs (y ∷ ys) apart all = (ap (λ b. cond b (Some x) (by_name (name y) xs)) apart.0 ∙ all.0, later x xs ys apart.1 all.1)

  own_found : (xs : List X) → all_apart same_name (map name xs) ≡ true → AllByRecursion (λ y. by_name (name y) xs ≡ Some y) xs
  own_found [] e = tt
  own_found (x ∷ xs) e =
      let parts = apart_parts same_name (name x) (map name xs) e in
      (ap (λ b. cond b (Some x) (by_name (name x) xs)) (same_itself (name x)), later x xs xs parts.0 (own_found xs parts.1))

  -- what holds of each item holds of the one that is found, which has the name
  found_holds : (P : X → Type 0) (n : List ℕ) (xs : List X) (x : X) → AllByRecursion P xs → by_name n xs ≡ Some x → P x × (name x ≡ n)
  found_holds P n [] x all e = cc
  found_holds P n (y ∷ ys) x all e = go (same_name (name y) n) refl e (found_holds P n ys x all.1)
    where
      go : (b : Bool) → same_name (name y) n ≡ b → cond b (Some y) (by_name n ys) ≡ Some x → (by_name n ys ≡ Some x → P x × (name x ≡ n)) → P x × (name x ≡ n)
      go true h f ih =
          let same : y ≡ x = cc in
          (subst P same all.0, ap name (sym same) ∙ same_name-is (name y) n h)
      go false h f ih = ih f

-- ---- columns are the components, ordered by their roles
-- each component is found among the columns
components_found : (a : Structure) → IsStructure a → AllByRecursion (λ y. component_of y.name (columns_of a) ≡ Some y) a.components
components_found a w =
    let apart : all_apart same_name (names_of (columns_of a)) ≡ true = all_apart-Perm same_name same_name-sym (Perm-map (λ (x : Component). x.name) (by_roles a.components)) ∙ w.distinct in
    AllByRecursion-Perm (λ y. component_of y.name (columns_of a) ≡ Some y) (by_roles a.components) (own_found (λ (x : Component). x.name) (columns_of a) apart)

some_is : {A : Type 0} (o : Option A) (d : A) → IsSome o → o ≡ Some (unwrap_or o d)
some_is None d e = cc
some_is (Some x) d e = refl

-- ---- the columns that are made
module _ (a : Structure) (w : IsStructure a) where
  abbrev columns : List Component
  columns = columns_of a

  found_again : (name : List ℕ) (x : Component) → component_of name a.components ≡ Some x → component_of name columns ≡ Some x
  found_again name x e =
      let h = found_holds (λ (y : Component). y.name) (λ y. component_of y.name columns ≡ Some y) name a.components x (components_found a w) e in
      subst (λ n. component_of n columns ≡ Some x) h.1 h.0

  given_again : (f : AggKind) (component : Option (List ℕ)) (kind : Kind) → given_of a.components f component ≡ Some kind → given_of columns f component ≡ Some kind
  given_again f (Some name) kind e = go (component_of name a.components) refl e
    where
      go : (o : Option Component) → component_of name a.components ≡ o → option_and_then (λ x. aggregate_kind f x.kind) o ≡ Some kind → option_and_then (λ x. aggregate_kind f x.kind) (component_of name columns) ≡ Some kind
      go None h g = cc
      go (Some x) h g = ap (option_and_then (λ z. aggregate_kind f z.kind)) (found_again name x h) ∙ g
  given_again agg.Count None kind e = e
  given_again f None kind e = cc

  of_measures : (f : AggKind) → ((name : List ℕ) → measure_call f name ≡ record { kind = f; component = Some name }) → (ms : List Component) → AllByRecursion (λ x. IsSome (aggregate_kind f x.kind)) ms → AllByRecursion (λ x. component_of x.name columns ≡ Some x) ms
      → AllByRecursion (IsMadeColumn (items.Measures f) columns) (map (given_measure (of_measure f) None) ms)
  of_measures f is [] taken found = tt
  of_measures f is (x ∷ ms) taken found =
      (ap (given_kind columns) (is x.name) ∙ ap (option_and_then (λ z. aggregate_kind f z.kind)) found.0 ∙ some_is (aggregate_kind f x.kind) x.kind taken.0, of_measures f is ms taken.1 found.1)

  of_targets : (all ts : List AggTarget) → AllByRecursion (λ t. target_named all t.target ≡ Some t) ts → AreTaken (items.Targets ts) a.components → AllByRecursion (IsMadeColumn (items.Targets all) columns) (map (target_component a.components) ts)
  of_targets all [] found taken = tt
  of_targets all (t ∷ ts) found taken = (
    ap (λ o. option_and_then (given_kind columns) (option_map (λ z. z.call) o)) found.0 ∙ given_again t.call.kind t.call.component (unwrap_or (given_kind a.components t.call) k.Null) (some_is (given_kind a.components t.call) k.Null taken.0.0),
    of_targets all ts found.1 taken.1,
  )

  measures_found : AllByRecursion (λ x. component_of x.name columns ≡ Some x) (measures a.components)
  measures_found = AllByRecursion-filter (λ x. component_of x.name columns ≡ Some x) is_measure a.components (components_found a w)

  abbrev TargetsApart : AggItems → Type 0
  TargetsApart (items.Measures f) = Unit {0}
  TargetsApart (items.Targets ts) = all_apart same_name (map (λ t. t.target) ts) ≡ true

  columns_made : (i : AggItems) → AreTaken i a.components → TargetsApart i → AllByRecursion (IsMadeColumn i columns) (made_components i a.components)
  columns_made (items.Measures agg.Count) taken apart = (refl, tt)
  columns_made (items.Measures agg.Sum) taken apart = of_measures agg.Sum (λ name. refl) (measures a.components) taken measures_found
  columns_made (items.Measures agg.Avg) taken apart = of_measures agg.Avg (λ name. refl) (measures a.components) taken measures_found
  columns_made (items.Measures agg.Min) taken apart = of_measures agg.Min (λ name. refl) (measures a.components) taken measures_found
  columns_made (items.Measures agg.Max) taken apart = of_measures agg.Max (λ name. refl) (measures a.components) taken measures_found
  columns_made (items.Measures agg.Median) taken apart = of_measures agg.Median (λ name. refl) (measures a.components) taken measures_found
  columns_made (items.Targets ts) taken apart = of_targets ts ts (own_found (λ (t : AggTarget). t.target) ts apart) taken

-- ---- roles
abbrev HasRole : Role → Bool → Component → Type 0
HasRole r b x = same_role x.role r ≡ b

chosen_identify : (names : List (List ℕ)) (xs : List Component) → AllByRecursion (HasRole role.Identifier true) (chosen choice.By names xs)
chosen_identify names [] = tt
chosen_identify names (x ∷ xs) = go (is_identifier x) refl (is_among x.name names) (chosen_identify names xs)
  where
    go : (b : Bool) → is_identifier x ≡ b → (d : Bool) → AllByRecursion (HasRole role.Identifier true) (chosen choice.By names xs) → AllByRecursion (HasRole role.Identifier true) (cond (b && d) (x ∷ chosen choice.By names xs) (chosen choice.By names xs))
    go true e true ih = (e, ih)
    go true e false ih = ih
    go false e d ih = ih

pub no_attribute : (r : Role) → same_role r role.Identifier ≡ true → same_role r role.Attribute ≡ false
no_attribute role.Identifier h = refl
no_attribute role.Measure h = cc
no_attribute role.Attribute h = cc

measures_made : (f : AggKind) (ms : List Component) → AllByRecursion (HasRole role.Identifier false) (map (given_measure (of_measure f) None) ms)
measures_made f [] = tt
measures_made f (x ∷ ms) = (refl, measures_made f ms)

targets_made : (xs : List Component) (ts : List AggTarget) → AreTaken (items.Targets ts) xs → AllByRecursion (HasRole role.Identifier false) (map (target_component xs) ts)
targets_made xs [] taken = tt
targets_made xs (t ∷ ts) taken = (taken.0.1, targets_made xs ts taken.1)

made_roles : (i : AggItems) (xs : List Component) → AreTaken i xs → AllByRecursion (HasRole role.Identifier false) (made_components i xs)
made_roles (items.Measures agg.Count) xs taken = (refl, tt)
made_roles (items.Measures f) xs taken = measures_made f (measures xs)
made_roles (items.Targets ts) xs taken = targets_made xs ts taken

target_names : (xs : List Component) (ts : List AggTarget) → names_of (map (target_component xs) ts) ≡ map (λ t. t.target) ts
target_names xs [] = refl
target_names xs (t ∷ ts) = ap (λ l. t.target ∷ l) (target_names xs ts)

apart_back : (xs ys : List (List ℕ)) → all_apart same_name (xs ++ ys) ≡ true → all_apart same_name ys ≡ true
apart_back [] ys e = e
apart_back (x ∷ xs) ys e = apart_back xs ys (apart_parts same_name x (xs ++ ys) e).1

-- ---- the structure that typing gives
module _ (spec : AggTree) (a s : Structure) (w : IsStructure a) (v : IsStructure s) (grouping : spec.grouping ≡ names_of (chosen choice.By spec.grouping a.components)) (taken : AreTaken spec.items a.components) (shape : s.components ≡ chosen choice.By spec.grouping a.components ++ made_components spec.items a.components) where
  abbrev ids : List Component
  ids = chosen choice.By spec.grouping a.components

  abbrev made : List Component
  made = made_components spec.items a.components

  of_roles : (r : Role) → filter (λ x. same_role x.role r) s.components ≡ filter (λ x. same_role x.role r) ids ++ filter (λ x. same_role x.role r) made
  of_roles r = ap (filter (λ x. same_role x.role r)) shape ∙ filter-append (λ x. same_role x.role r) ids made

  identify : AllByRecursion (HasRole role.Identifier true) ids
  identify = chosen_identify spec.grouping a.components

  identifiers_are : identifiers_of s ≡ ids
  identifiers_are =
      of_roles role.Identifier
      ∙ ap (λ l. l ++ filter (λ x. same_role x.role role.Identifier) made) (filter_all (λ x. same_role x.role role.Identifier) ids identify)
      ∙ ap (λ l. ids ++ l) (filter_none (λ x. same_role x.role role.Identifier) made (made_roles spec.items a.components taken))
      ∙ append-nil ids

  apart : TargetsApart a w spec.items
  apart = go spec.items (apart_back (names_of ids) (names_of made) (ap (all_apart same_name) (sym (map-append (λ (x : Component). x.name) ids made) ∙ ap names_of (sym shape)) ∙ v.distinct))
    where
      go : (i : AggItems) → all_apart same_name (names_of (made_components i a.components)) ≡ true → TargetsApart a w i
      go (items.Measures f) e = tt
      go (items.Targets ts) e = ap (all_apart same_name) (sym (target_names a.components ts)) ∙ e

  abbrev P : Component → Type 0
  P = IsMadeColumn spec.items (columns_of a)

  made_all : AllByRecursion P made
  made_all = columns_made a w spec.items taken apart

  of_role_made : (r : Role) → ((x : Component) → HasRole role.Identifier true x → HasRole r false x) → AllByRecursion P (of_role r s)
  of_role_made r other =
      subst (AllByRecursion P) (sym (of_roles r ∙ ap (λ l. l ++ filter (λ x. same_role x.role r) made) (filter_none (λ x. same_role x.role r) ids (all_more (HasRole role.Identifier true) (HasRole r false) other ids identify))))
      (AllByRecursion-filter P (λ x. same_role x.role r) made made_all)

  both : (xs ys : List Component) → AllByRecursion P xs → AllByRecursion P ys → AllByRecursion P (xs ++ ys)
  both [] ys h i = i
  both (x ∷ xs) ys h i = (h.0, both xs ys h.1 i)

  pub shaped : IsAggregated spec a s
  shaped = record {
    well_formed = v;
    grouping = ap names_of identifiers_are ∙ sym grouping;
    identifiers = subst (AllByRecursion (λ y. component_of y.name (columns_of a) ≡ Some y)) (sym identifiers_are) (AllByRecursion-filter (λ y. component_of y.name (columns_of a) ≡ Some y) (is_chosen choice.By spec.grouping) a.components (components_found a w));
    columns = both (of_role role.Measure s) (of_role role.Attribute s) (of_role_made role.Measure (λ x. no_measure x.role)) (of_role_made role.Attribute (λ x. no_attribute x.role));
    shape = shape;
  }

pub fits : (spec : AggTree) (a s : Structure) → IsTypedAggregate spec a s → IsAggregated spec a s
fits spec a s t = shaped spec a s t.operand t.well_formed t.grouping t.taken t.shape
