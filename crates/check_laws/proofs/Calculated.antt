-- `calc`.
use Rattle.std.proofs.Common.{◌≡◌, ℕ, Bool, true, false, cond, List, [], ◌∷◌, ◌++◌, map, Option, Some, None, option_map, refl, sym, ap, ◌∙◌, subst}
use Rattle.std.proofs.lemmas.Bool.{false≢true}
use Rattle.std.proofs.lemmas.List.{append-nil}
use Rattle.std.proofs.lemmas.List.Elements.{filter-append}
use Rattle.std.specs.List.{AllByRecursion, filter, find}
use Rattle.std.specs.Option.{option_map_or}
use Rattle.std.specs.Prelude.{unwrap_or}
use Rattle.vtl_decimal.specs.Settings.{Settings}
use Rattle.vtl_lists.specs.Apart.{all_apart}
use Rattle.vtl_lists.proofs.Aparts.{apart_parts}
use Rattle.vtl_lists.proofs.Filters.{filter_none, find-map, find_passes}
use Rattle.vtl_lists.proofs.Sorts.{AllByRecursion-filter}
use Rattle.vtl_lists.proofs.Alls.{all_append, all_filtered}
use Rattle.vtl_tuples.proofs.Lists.{map_same}
use Rattle.vtl_tree.specs.Structure.{columns_of, names_of, same_name, same_role}
use Rattle.vtl_tree.specs.Structures.{structure_of}
use Rattle.vtl_tree.specs.declared.structure.Component.{Component}
use Rattle.vtl_tree.specs.declared.structure.Role.{Role}
use Rattle.vtl_tree.specs.declared.structure.Role.TheVariants as role
use Rattle.vtl_tree.specs.declared.structure.Structure.{Structure}
use Rattle.vtl_tree.specs.Trees.{ItemTree}
use Rattle.vtl_tree.specs.Choices.{is_identifier, is_identifier_name}
use Rattle.vtl_tree.specs.ClauseShapes.{calculated, is_new, retargeted, target_component}
use Rattle.check_shapes.specs.Clauses.{calc_form}
use Rattle.vtl_tree.specs.ClauseShapes as clauses
use Rattle.vtl_tree.specs.Measures.{made}
use Rattle.vtl_tree.specs.Names.{component_of}
use Rattle.vtl_tree.specs.declared.targets.Target.{Target}
use Rattle.vtl_tree.specs.Kinds.{exp_kind}
use Rattle.vtl_tree.specs.Columns.{column_named}
use Rattle.vtl_tree.proofs.NotNullLemmas.{same_itself}
use Rattle.vtl_meaning.specs.Made.{IsCalculated, IsTyped}
use Rattle.vtl_meaning.specs.Operators.{calculated_exp, target_named, value_exp}
use Rattle.vtl_meaning.specs.Shapes.{IsShaped, calculated_components, target_of}
use Rattle.check_laws.specs.Gives.{Gives}
use Rattle.vtl_meaning.proofs.FoundColumns.{IsFound, all-found, of-columns}
use Rattle.check_laws.proofs.Expressions.{IsFor, for-map}
use Rattle.vtl_meaning.proofs.Lists as lists
use Rattle.vtl_meaning.proofs.AnalyticShaped.{identifiers_stay}
use Rattle.vtl_meaning.proofs.Places.{same_name-is}
use Rattle.check_laws.proofs.Measured.{found-columns}
use Rattle.check_laws.proofs.Shapes.{role-identifier, shaped-gives}

-- ---- the items of a list by their names
pub items-found : (items : List ItemTree) → all_apart same_name (map (λ i. i.target) items) ≡ true → AllByRecursion (λ i. target_named items i.target ≡ Some i) items
items-found [] e = tt
items-found (i ∷ items) e = (
  ap (λ b. cond b (Some i) (target_named items i.target)) (same_itself i.target),
  lists.joined (λ j. same_name i.target j.target ≡ false) (λ j. target_named items j.target ≡ Some j) (λ j. target_named (i ∷ items) j.target ≡ Some j) items
      (λ j no found. ap (λ b. cond b (Some i) (target_named items j.target)) no ∙ found) (lists.unmapped (λ n. same_name i.target n ≡ false) (λ i. i.target) items parts.0) (items-found items parts.1),
)
  where
    parts : AllByRecursion (λ n. same_name i.target n ≡ false) (map (λ i. i.target) items) × (all_apart same_name (map (λ i. i.target) items) ≡ true)
    parts = apart_parts same_name i.target (map (λ i. i.target) items) e

-- ---- targets
-- a value for a target, which is no identifier
pub record IsItemFor (p : Settings) (a : Structure) (target : ItemTree → Target) (i : ItemTree) : Type 0 where
  pub same : target i ≡ target_of a.components i
  pub kind : exp_kind (value_exp i.value) ≡ (target i).kind
  pub role : (r : Role) → unwrap_or (target i).role r ≡ role.Identifier → r ≡ role.Identifier
  pub typed : IsTyped p (columns_of a) (value_exp i.value)
  pub free : is_identifier_name a.components i.target ≡ false

find-same : {X : Type 0} (p q : X → Bool) (xs : List X) → ((x : X) → p x ≡ q x) → find p xs ≡ find q xs
find-same p q [] e = refl
find-same p q (x ∷ xs) e = ap (λ b. cond b (Some x) (find p xs)) (e x) ∙ ap (cond (q x) (Some x)) (find-same p q xs e)

not-identifier : (y : Component) → (y.role ≡ role.Identifier → ⊥) → is_identifier y ≡ false
not-identifier y h = go (is_identifier y) refl
  where
    go : (b : Bool) → is_identifier y ≡ b → b ≡ false
    go true e = absurd (h (role-identifier y e))
    go false e = refl

pub calculated-fits : (p : Settings) (items : List ItemTree) (target : ItemTree → Target) (a : Structure) → IsShaped a → all_apart same_name (map (λ i. i.target) items) ≡ true → ((i : ItemTree) → (target i).name ≡ i.target) → AllByRecursion (IsItemFor p a target) items
    → Gives (λ s. IsShaped s × IsCalculated p items a s) (calc_form (map target items) a.components)
calculated-fits p items target a ia apart names h =
    shaped-gives (λ s. IsShaped s × IsCalculated p items a s) (old ++ new) (λ s. (
      s,
      record {
        well_formed = s.well_formed;
        identifiers = (ap names_of same, ap (map (λ x. x.kind)) same);
        free = lists.joined (IsFound xs) (λ x. is_identifier x ≡ true) (λ x. target_named items x.name ≡ None) (filter is_identifier xs) free (AllByRecursion-filter (IsFound xs) is_identifier xs (all-found a ia.well_formed)) (all_filtered is_identifier xs);
        columns = for-map p (columns_of a) (calculated_exp items (columns_of a)) (columns_of (structure_of (old ++ new))) (of-columns Good (structure_of (old ++ new)) (all_append Good old new
            (lists.mapped Good (calculated ts) xs (lists.weaker (λ x. IsFor p (columns_of a) (column_named (columns_of a) x.name) x) (λ x. Good (calculated ts x)) xs good-old (found-columns p a ia)))
            (lists.mapped Good target_component (filter (is_new xs) ts) (AllByRecursion-filter (λ t. Good (target_component t)) (is_new xs) ts (lists.mapped (λ t. Good (target_component t)) target items (lists.joined (IsItemFor p a target) (λ i. target_named items i.target ≡ Some i) (λ i. Good (target_component (target i))) items good-new h (items-found items apart)))))));
        apart = apart;
        shape = ap (λ l. calculated_components l xs) (map_same target (target_of xs) items (lists.weaker (IsItemFor p a target) (λ i. target i ≡ target_of xs i) items (λ i it. it.same) h));
      },
    ))
  where
    xs : List Component
    xs = a.components

    ts : List Target
    ts = map target items

    old : List Component
    old = map (calculated ts) xs

    new : List Component
    new = map target_component (filter (is_new xs) ts)

    Good : Component → Type 0
    Good y = IsFor p (columns_of a) (calculated_exp items (columns_of a) y) y

    targeted : (x : Component) → clauses.target_of x.name ts ≡ option_map target (target_named items x.name)
    targeted x = find-map target (λ t. same_name t.name x.name) items ∙ ap (option_map target) (find-same (λ i. same_name (target i).name x.name) (λ i. same_name i.target x.name) items (λ i. ap (λ n. same_name n x.name) (names i)))

    stays : (x : Component) → target_named items x.name ≡ None → calculated ts x ≡ x
    stays x e = ap (retargeted x) (targeted x ∙ ap (option_map target) e)

    becomes : (x : Component) (i : ItemTree) → target_named items x.name ≡ Some i → calculated ts x ≡ made x.name (unwrap_or (target i).role x.role) (target i).kind
    becomes x i e = ap (retargeted x) (targeted x ∙ ap (option_map target) e)

    item-at : (name : List ℕ) (i : ItemTree) → target_named items name ≡ Some i → IsItemFor p a target i × (same_name i.target name ≡ true)
    item-at name i e = find_passes (IsItemFor p a target) (λ i. same_name i.target name) items i h e

    valued : (y : Component) (i : ItemTree) → target_named items y.name ≡ Some i → IsItemFor p a target i → y.kind ≡ (target i).kind → Good y
    valued y i e it k =
        let v : calculated_exp items (columns_of a) y ≡ value_exp i.value = ap (λ o. option_map_or (λ i. value_exp i.value) o (column_named (columns_of a) y.name)) e in
        (subst (IsTyped p (columns_of a)) (sym v) it.typed, ap exp_kind v ∙ it.kind ∙ sym k)

    good-old : (x : Component) → IsFor p (columns_of a) (column_named (columns_of a) x.name) x → Good (calculated ts x)
    good-old x f = go (target_named items x.name) refl
      where
        go : (o : Option ItemTree) → target_named items x.name ≡ o → Good (calculated ts x)
        go None e =
            let v : calculated_exp items (columns_of a) x ≡ column_named (columns_of a) x.name = ap (λ o. option_map_or (λ i. value_exp i.value) o (column_named (columns_of a) x.name)) e in
            subst Good (sym (stays x e)) (subst (IsTyped p (columns_of a)) (sym v) f.0, ap exp_kind v ∙ f.1)
        go (Some i) e = subst Good (sym (becomes x i e)) (valued (made x.name (unwrap_or (target i).role x.role) (target i).kind) i e (item-at x.name i e).0 refl)

    good-new : (i : ItemTree) → IsItemFor p a target i → target_named items i.target ≡ Some i → Good (target_component (target i))
    good-new i it found = valued (target_component (target i)) i (ap (target_named items) (names i) ∙ found) it refl

    free : (x : Component) → IsFound xs x → is_identifier x ≡ true → target_named items x.name ≡ None
    free x found is = go (target_named items x.name) refl
      where
        go : (o : Option ItemTree) → target_named items x.name ≡ o → o ≡ None
        go None e = refl
        go (Some i) e =
            let it = item-at x.name i e in
            let at : component_of i.target xs ≡ Some x = ap (λ n. component_of n xs) (same_name-is i.target x.name it.1) ∙ found in
            absurd (false≢true (sym it.0.free ∙ ap (λ o. option_map_or is_identifier o false) at ∙ is))

    roles : (x : Component) → IsFound xs x → (is_identifier x ≡ true → calculated ts x ≡ x) × (is_identifier x ≡ false → is_identifier (calculated ts x) ≡ false)
    roles x found = ((λ is. stays x (free x found is)), (λ isnt. go isnt (target_named items x.name) refl))
      where
        go : is_identifier x ≡ false → (o : Option ItemTree) → target_named items x.name ≡ o → is_identifier (calculated ts x) ≡ false
        go isnt None e = ap is_identifier (stays x e) ∙ isnt
        go isnt (Some i) e =
            ap is_identifier (becomes x i e)
            ∙ not-identifier (made x.name (unwrap_or (target i).role x.role) (target i).kind) (λ k. false≢true (sym isnt ∙ ap (λ r. same_role r role.Identifier) ((item-at x.name i e).0.role x.role k)))

    measures-new : AllByRecursion (λ y. is_identifier y ≡ false) new
    measures-new = lists.mapped (λ y. is_identifier y ≡ false) target_component (filter (is_new xs) ts) (AllByRecursion-filter (λ t. is_identifier (target_component t) ≡ false) (is_new xs) ts (lists.mapped (λ t. is_identifier (target_component t) ≡ false) target items (lists.weaker (IsItemFor p a target) (λ i. is_identifier (target_component (target i)) ≡ false) items one h)))
      where
        one : (i : ItemTree) → IsItemFor p a target i → is_identifier (target_component (target i)) ≡ false
        one i it = not-identifier (target_component (target i)) (λ k. let no : role.Measure ≡ role.Identifier = it.role role.Measure k in cc)

    same : filter is_identifier (old ++ new) ≡ filter is_identifier xs
    same =
        filter-append is_identifier old new
        ∙ ap (λ l. l ++ filter is_identifier new) (identifiers_stay (calculated ts) xs (lists.weaker (IsFound xs) (λ x. (is_identifier x ≡ true → calculated ts x ≡ x) × (is_identifier x ≡ false → is_identifier (calculated ts x) ≡ false)) xs roles (all-found a ia.well_formed)))
        ∙ ap (λ l. filter is_identifier xs ++ l) (filter_none is_identifier new measures-new)
        ∙ append-nil (filter is_identifier xs)
