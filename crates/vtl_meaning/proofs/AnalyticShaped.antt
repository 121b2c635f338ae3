-- The structure that typing gives fits: its identifiers stay, and its other columns are made or stay.
use Rattle.std.proofs.Common.{◌≡◌, ℕ, Bool, true, false, ◌&&◌, cond, List, [], ◌∷◌, ◌++◌, map, Option, Some, None, refl, sym, ap, ◌∙◌, subst, true≢false}
use Rattle.std.specs.Prelude.{option_and_then, option_map, unwrap_or}
use Rattle.std.specs.List.{AllByRecursion, filter}
use Rattle.std.specs.Option.{option_map_or}
use Rattle.std.proofs.lemmas.List.{append-nil}
use Rattle.std.proofs.lemmas.List.Elements.{filter-append}
use Rattle.vtl_lists.specs.Apart.{all_apart}
use Rattle.vtl_decimal.specs.Settings.{Settings}
use Rattle.vtl_lists.proofs.Perms.{AllByRecursion-Perm}
use Rattle.vtl_lists.proofs.Sorts.{AllByRecursion-filter, AllByRecursion-map}
use Rattle.vtl_lists.proofs.Alls.{all_append, all_both, all_filtered, all_more}
use Rattle.vtl_lists.proofs.Filters.{filter_all, filter_none, find-map, find_passes}
use Rattle.vtl_tree.specs.Structure.{IsStructure, columns_of, of_role, same_name, same_role}
use Rattle.vtl_tree.specs.declared.structure.Component.{Component}
use Rattle.vtl_tree.specs.declared.structure.Role.{Role}
use Rattle.vtl_tree.specs.declared.structure.Role.TheVariants as role
use Rattle.vtl_tree.specs.declared.structure.Structure.{Structure}
use Rattle.vtl_tree.specs.Trees as nodes
use Rattle.vtl_tree.specs.Trees.{AnalyticTree, ItemTree, ValueTree}
use Rattle.vtl_tree.specs.declared.calls.AnalyticOp.{AnalyticOp}
use Rattle.vtl_tree.specs.declared.calls.Window.{Window}
use Rattle.vtl_tree.specs.Choices.{chosen, is_identifier}
use Rattle.vtl_tree.specs.ClauseShapes.{calculated, is_new, retargeted, target_component}
use Rattle.vtl_tree.specs.ClauseShapes as clauses
use Rattle.vtl_tree.specs.Columns.{identifiers_of, others_of}
use Rattle.vtl_tree.specs.Measures.{given_measure, is_measure, made, measures}
use Rattle.vtl_tree.specs.Names.{component_of}
use Rattle.vtl_tree.specs.declared.choices.Choice.TheVariants as choice
use Rattle.vtl_tree.specs.declared.targets.Target.{Target}
use Rattle.vtl_tree.specs.Kinds.{given_kind}
use Rattle.vtl_meaning.specs.Analytics.{item_named, measure_call, value_for}
use Rattle.vtl_meaning.specs.AnalyticShapes.{AreMeasuresTaken, IsAnalyzed, IsMadeBy, IsMadeColumn, IsMadeOrStays, IsTakenItem, IsTypedAnalytic, analyzed_components, given_of, of_measure, taken, takes}
use Rattle.vtl_meaning.specs.Shapes.{target_of, tree_kind}
use Rattle.vtl_meaning.proofs.AnalyticColumns.{IsOther, by_roles, columns_found, own_found}
use Rattle.vtl_meaning.proofs.Places.{same_name-is, attribute_role, measure_role}

-- ---- lists
-- the components that a function leaves, where identifiers stay and no other becomes one
pub identifiers_stay : (f : Component → Component) (xs : List Component) → AllByRecursion (λ x. (is_identifier x ≡ true → f x ≡ x) × (is_identifier x ≡ false → is_identifier (f x) ≡ false)) xs → filter is_identifier (map f xs) ≡ filter is_identifier xs
identifiers_stay f [] h = refl
identifiers_stay f (x ∷ xs) h = go (is_identifier x) refl (identifiers_stay f xs h.1)
  where
    go : (b : Bool) → is_identifier x ≡ b → filter is_identifier (map f xs) ≡ filter is_identifier xs → cond (is_identifier (f x)) (f x ∷ filter is_identifier (map f xs)) (filter is_identifier (map f xs)) ≡ cond b (x ∷ filter is_identifier xs) (filter is_identifier xs)
    go true e ih = ap (λ y. cond (is_identifier y) (y ∷ filter is_identifier (map f xs)) (filter is_identifier (map f xs))) (h.0.0 e) ∙ ap (λ b. cond b (x ∷ filter is_identifier (map f xs)) (filter is_identifier (map f xs))) e ∙ ap (λ l. x ∷ l) ih
    go false e ih = ap (λ b. cond b (f x ∷ filter is_identifier (map f xs)) (filter is_identifier (map f xs))) (h.0.1 e) ∙ ih

-- ---- roles
pub no_measure : (r : Role) → same_role r role.Identifier ≡ true → same_role r role.Measure ≡ false
no_measure role.Identifier h = refl
no_measure role.Measure h = cc
no_measure role.Attribute h = cc

module _ (p : Settings) (spec : AnalyticTree) (a s : Structure) where
  -- a component that is no identifier is a column that is made or stays
  abbrev Good : Component → Type 0
  Good y = IsOther y → IsMadeColumn p spec (columns_of a) y

  columns_good : AllByRecursion Good s.components → AllByRecursion (IsMadeColumn p spec (columns_of a)) (others_of s)
  columns_good all = all_append P (of_role role.Measure s) (of_role role.Attribute s) (of_other role.Measure (λ x. measure_role x.role)) (of_other role.Attribute (λ x. attribute_role x.role))
    where
      P : Component → Type 0
      P = IsMadeColumn p spec (columns_of a)

      of_other : (r : Role) → ((x : Component) → same_role x.role r ≡ true → IsOther x) → AllByRecursion (IsMadeColumn p spec (columns_of a)) (of_role r s)
      of_other r other =
          all_both Good (λ x. same_role x.role r ≡ true) (IsMadeColumn p spec (columns_of a)) (λ x g e. g (other x e)) (of_role r s)
          (AllByRecursion-filter Good (λ x. same_role x.role r) s.components all) (all_filtered (λ x. same_role x.role r) s.components)

module _ (p : Settings) (a s : Structure) (w : IsStructure a) (v : IsStructure s) where
  abbrev xs : List Component
  xs = a.components

  -- each component is found among the columns
  found_all : AllByRecursion (λ y. component_of y.name (columns_of a) ≡ Some y) xs
  found_all = AllByRecursion-Perm (λ y. component_of y.name (columns_of a) ≡ Some y) (by_roles xs) (columns_found a w)

  -- ---- on each measure
  module _ (o : AnalyticOp) (n : Window) (h : AreMeasuresTaken p o xs) (shape : s.components ≡ analyzed_components (nodes.of_measures o n) xs) where
    abbrev spec : AnalyticTree
    spec = nodes.of_measures o n

    abbrev ids : List Component
    ids = chosen choice.Except [] xs

    abbrev given : List Component
    given = map (given_measure (of_measure o) None) (measures xs)

    all_identify : (ys : List Component) → (chosen choice.Except [] ys ≡ filter is_identifier ys)
    all_identify [] = refl
    all_identify (y ∷ ys) = go (is_identifier y) (all_identify ys)
      where
        go : (b : Bool) → chosen choice.Except [] ys ≡ filter is_identifier ys → cond (b && true) (y ∷ chosen choice.Except [] ys) (chosen choice.Except [] ys) ≡ cond b (y ∷ filter is_identifier ys) (filter is_identifier ys)
        go true ih = ap (λ l. y ∷ l) ih
        go false ih = ih

    no_identifiers : (ms : List Component) → AllByRecursion IsOther (map (given_measure (of_measure o) None) ms)
    no_identifiers [] = tt
    no_identifiers (m ∷ ms) = (refl, no_identifiers ms)

    measures_identify : identifiers_of s ≡ identifiers_of a
    measures_identify =
        ap (filter is_identifier) shape
        ∙ filter-append is_identifier ids given
        ∙ ap (λ l. filter is_identifier ids ++ l) (filter_none is_identifier given (no_identifiers (measures xs)))
        ∙ append-nil (filter is_identifier ids)
        ∙ ap (filter is_identifier) (all_identify xs)
        ∙ filter_all is_identifier (filter is_identifier xs) (all_filtered is_identifier xs)

    made_measures : (ms : List Component) → AllByRecursion (λ m. takes o m.kind ≡ true) ms → AllByRecursion (λ m. component_of m.name (columns_of a) ≡ Some m) ms → AllByRecursion (Good p spec a s) (map (given_measure (of_measure o) None) ms)
    made_measures [] taken_all found = tt
    made_measures (m ∷ ms) taken_all found = ((λ other. (one, h.1)), made_measures ms taken_all.1 found.1)
      where
        gives : taken o m.kind ≡ Some (given_kind o m.kind)
        gives = ap (λ b. cond b (Some (given_kind o m.kind)) None) taken_all.0

        one : given_of (columns_of a) o (Some m.name) ≡ Some (unwrap_or (taken o m.kind) m.kind)
        one = ap (λ c. option_and_then (λ x. taken o x.kind) c) found.0 ∙ gives ∙ ap Some (sym (ap (λ t. unwrap_or t m.kind) gives))

    identifiers_good : AllByRecursion (Good p spec a s) ids
    identifiers_good = all_more (λ x. is_identifier x ≡ true) (Good p spec a s) (λ x e other. absurd (true≢false (sym e ∙ other))) ids (subst (AllByRecursion (λ x. is_identifier x ≡ true)) (sym (all_identify xs)) (all_filtered is_identifier xs))

    measures_fit : IsAnalyzed p (nodes.of_measures o n) a s
    measures_fit = record {
      well_formed = v;
      identifiers = measures_identify;
      free = all_more (λ x. is_identifier x ≡ true) (λ x. value_for (nodes.of_measures o n) x ≡ None) (λ x e. ap (λ b. cond b (Some (measure_call o n x.name)) None) (no_measure x.role e)) (identifiers_of s) (all_filtered is_identifier s.components);
      columns = columns_good p spec a s (subst (AllByRecursion (Good p spec a s)) (sym shape) (all_append (Good p spec a s) ids given identifiers_good (made_measures (measures xs) h.0 (AllByRecursion-filter (λ y. component_of y.name (columns_of a) ≡ Some y) is_measure xs found_all))));
      shape = shape;
    }

  -- ---- as targets of `calc`
  module _ (items : List ItemTree) (h : AllByRecursion (IsTakenItem p a) items) (apart : all_apart same_name (map (λ i. i.target) items) ≡ true) (shape : s.components ≡ analyzed_components (nodes.of_items items) xs) where
    abbrev calc : AnalyticTree
    calc = nodes.of_items items

    abbrev ts : List Target
    ts = map (target_of xs) items

    abbrev old : List Component
    old = map (calculated ts) xs

    abbrev new : List Component
    new = map target_component (filter (is_new xs) ts)

    targeted : (x : Component) → clauses.target_of x.name ts ≡ option_map (target_of xs) (item_named items x.name)
    targeted x = find-map (target_of xs) (λ t. same_name t.name x.name) items

    stays : (x : Component) → item_named items x.name ≡ None → calculated ts x ≡ x
    stays x e = ap (retargeted x) (targeted x ∙ ap (option_map (target_of xs)) e)

    becomes : (x : Component) (i : ItemTree) → item_named items x.name ≡ Some i → calculated ts x ≡ made x.name (unwrap_or i.role x.role) (tree_kind xs i.value)
    becomes x i e = ap (retargeted x) (targeted x ∙ ap (option_map (target_of xs)) e)

    item_at : (name : List ℕ) (i : ItemTree) → item_named items name ≡ Some i → IsTakenItem p a i × (same_name i.target name ≡ true)
    item_at name i e = find_passes (IsTakenItem p a) (λ i. same_name i.target name) items i h e

    -- a column of the name and the kind of a target
    valued : (y : Component) (i : ItemTree) → item_named items y.name ≡ Some i → IsTakenItem p a i → tree_kind xs i.value ≡ y.kind → IsMadeColumn p calc (columns_of a) y
    valued y i e it k =
        subst (IsMadeOrStays p (columns_of a) y) (sym (ap (option_map (λ i. i.value)) e)) (subst (λ kind. IsMadeBy p (columns_of a) kind i.value) k it.made)

    free : (x : Component) → component_of x.name xs ≡ Some x → is_identifier x ≡ true → item_named items x.name ≡ None
    free x found is = go (item_named items x.name) refl
      where
        go : (o : Option ItemTree) → item_named items x.name ≡ o → o ≡ None
        go None e = refl
        go (Some i) e =
            let it = item_at x.name i e in
            let at : component_of i.target xs ≡ Some x = ap (λ n. component_of n xs) (same_name-is i.target x.name it.1) ∙ found in
            absurd (true≢false (sym is ∙ ap (λ o. option_map_or is_identifier o false) (sym at) ∙ it.0.free))

    other_role : (r : Option Role) (t : Role) → same_role t role.Identifier ≡ false → same_role (unwrap_or r role.Measure) role.Identifier ≡ false → same_role (unwrap_or r t) role.Identifier ≡ false
    other_role None t e f = e
    other_role (Some r) t e f = f

    roles : (x : Component) → component_of x.name xs ≡ Some x → (is_identifier x ≡ true → calculated ts x ≡ x) × (is_identifier x ≡ false → is_identifier (calculated ts x) ≡ false)
    roles x found = ((λ is. stays x (free x found is)), (λ other. go other (item_named items x.name) refl))
      where
        go : is_identifier x ≡ false → (o : Option ItemTree) → item_named items x.name ≡ o → is_identifier (calculated ts x) ≡ false
        go other None e = ap is_identifier (stays x e) ∙ other
        go other (Some i) e = ap is_identifier (becomes x i e) ∙ other_role i.role x.role other (item_at x.name i e).0.role

    own : AllByRecursion (λ x. component_of x.name xs ≡ Some x) xs
    own = own_found (λ (x : Component). x.name) xs w.distinct

    good_old : (x : Component) → component_of x.name (columns_of a) ≡ Some x → Good p calc a s (calculated ts x)
    good_old x found = go (item_named items x.name) refl
      where
        go : (o : Option ItemTree) → item_named items x.name ≡ o → Good p calc a s (calculated ts x)
        go None e = subst (Good p calc a s) (sym (stays x e)) (λ other. subst (IsMadeOrStays p (columns_of a) x) (sym (ap (option_map (λ i. i.value)) e)) found)
        go (Some i) e = subst (Good p calc a s) (sym (becomes x i e)) (λ other. valued (made x.name (unwrap_or i.role x.role) (tree_kind xs i.value)) i e (item_at x.name i e).0 refl)

    -- what holds of each new target
    new_all : (P : Component → Type 0) → ((i : ItemTree) → IsTakenItem p a i → item_named items i.target ≡ Some i → P (target_component (target_of xs i))) → AllByRecursion P new
    new_all P f =
        AllByRecursion-map target_component P (filter (is_new xs) ts) (AllByRecursion-filter (λ t. P (target_component t)) (is_new xs) ts (AllByRecursion-map (target_of xs) (λ t. P (target_component t)) items
        (all_both (IsTakenItem p a) (λ i. item_named items i.target ≡ Some i) (λ i. P (target_component (target_of xs i))) f items h (own_found (λ (i : ItemTree). i.target) items apart))))

    items_identify : identifiers_of s ≡ identifiers_of a
    items_identify =
        ap (filter is_identifier) shape
        ∙ filter-append is_identifier old new
        ∙ ap (λ l. filter is_identifier old ++ l) (filter_none is_identifier new (new_all IsOther (λ i it e. it.role)))
        ∙ append-nil (filter is_identifier old)
        ∙ identifiers_stay (calculated ts) xs (all_more (λ x. component_of x.name xs ≡ Some x) (λ x. (is_identifier x ≡ true → calculated ts x ≡ x) × (is_identifier x ≡ false → is_identifier (calculated ts x) ≡ false)) roles xs own)

    items_fit : IsAnalyzed p (nodes.of_items items) a s
    items_fit = record {
      well_formed = v;
      identifiers = items_identify;
      free = subst (AllByRecursion (λ x. value_for calc x ≡ None)) (sym items_identify)
          (all_both (λ x. component_of x.name xs ≡ Some x) (λ x. is_identifier x ≡ true) (λ x. value_for calc x ≡ None) (λ x found is. ap (option_map (λ i. i.value)) (free x found is)) (identifiers_of a)
          (AllByRecursion-filter (λ x. component_of x.name xs ≡ Some x) is_identifier xs own) (all_filtered is_identifier xs));
      columns = columns_good p calc a s (subst (AllByRecursion (Good p calc a s)) (sym shape) (all_append (Good p calc a s) old new
          (AllByRecursion-map (calculated ts) (Good p calc a s) xs (all_more (λ x. component_of x.name (columns_of a) ≡ Some x) (λ x. Good p calc a s (calculated ts x)) good_old xs found_all))
          (new_all (Good p calc a s) (λ i it e other. valued (target_component (target_of xs i)) i e it refl))));
      shape = shape;
    }

pub fits : (p : Settings) (spec : AnalyticTree) (a s : Structure) → IsTypedAnalytic p spec a s → IsAnalyzed p spec a s
fits p (nodes.of_measures o n) a s t = measures_fit p a s t.operand t.well_formed o n t.taken t.shape
fits p (nodes.of_items items) a s t = items_fit p a s t.operand t.well_formed items t.taken.0 t.taken.1 t.shape
