-- Clauses that leave some of the components: `keep`, `drop`, `sub`, and `a#m`.
use Rattle.std.proofs.Common.{◌≡◌, ℕ, Bool, true, false, ◌||◌, not, List, [], ◌∷◌, ◌++◌, map, Option, Some, None, Ok, refl, sym, ap, ◌∙◌, subst}
use Rattle.std.proofs.lemmas.Bool.{false≢true, not-false}
use Rattle.std.specs.List.{AllByRecursion, filter, list_any}
use Rattle.std.specs.Option.{option_map_or}
use Rattle.vtl_lists.proofs.Sorts.{AllByRecursion-filter}
use Rattle.vtl_lists.proofs.Alls.{all_filtered, all_from_filtered}
use Rattle.vtl_cell.specs.Kinds.{is_of}
use Rattle.vtl_tree.specs.Structure.{columns_of, names_of, same_name}
use Rattle.vtl_tree.specs.Structures.{structure_of}
use Rattle.vtl_tree.specs.declared.structure.Component.{Component}
use Rattle.vtl_tree.specs.declared.structure.Structure.{Structure}
use Rattle.vtl_tree.specs.declared.clauses.SubItem.{SubItem}
use Rattle.vtl_tree.specs.Choices.{chosen, is_chosen, is_identifier}
use Rattle.check_shapes.specs.Choices.{choice_form}
use Rattle.vtl_tree.specs.Names.{component_of, is_among, serves}
use Rattle.check_faults.specs.InTurn.{in_turn}
use Rattle.check_shapes.specs.Names.{all_known, known, known_as, known_name, name_tests}
use Rattle.check_shapes.specs.Shape.{shaped}
use Rattle.vtl_tree.specs.declared.choices.Choice.{Choice}
use Rattle.vtl_tree.specs.declared.choices.Choice.TheVariants as choice
use Rattle.vtl_tree.specs.declared.names.Wanted.{Wanted}
use Rattle.vtl_tree.specs.declared.names.Wanted.TheVariants as wanted
use Rattle.vtl_tree.specs.Columns.{identifiers_of, kind_named, place_of}
use Rattle.vtl_meaning.specs.Made.{AreAmong, IsColumnAt, IsLeft, IsSub}
use Rattle.vtl_meaning.specs.Shapes.{IsChosen, IsShaped, is_known}
use Rattle.check_laws.specs.Gives.{Gives}
use Rattle.check_laws.proofs.Among.{IsAmong, found-among, own-columns}
use Rattle.vtl_meaning.proofs.FoundColumns.{HasName, IsFound, all-found, at-place, found-filter, has-itself, kind-found, of-columns}
use Rattle.vtl_meaning.proofs.Lists as lists
use Rattle.vtl_meaning.proofs.Places.{same_name-is}
use Rattle.check_laws.proofs.Shapes.{filter-within, shaped-gives}
use Rattle.check_laws.proofs.Steps.{tested, then, weaker}

-- ---- names of components
-- this is the component of the name, and its role serves
abbrev pub IsNamed : Wanted → List Component → List ℕ → Component → Type 0
IsNamed w xs name x = (component_of name xs ≡ Some x) × (serves w x.role ≡ true)

abbrev pub IsName : Wanted → List Component → List ℕ → Type 0
IsName w xs name = (x : Component) × IsNamed w xs name x

pub known-gives : (w : Wanted) (xs : List Component) (before : List (List ℕ)) (name : List ℕ) → Gives (IsNamed w xs name) (known w xs before name)
known-gives w xs before name = go (component_of name xs) refl
  where
    go : (o : Option Component) → component_of name xs ≡ o → Gives (IsNamed w xs name) (known_as w before name o)
    go None e = tt
    go (Some x) e = tested (IsNamed w xs name) (name_tests w before name x.role) x (λ passed. (e, not-false (serves w x.role) passed.1.0))

-- ---- the components that are left
left-columns : (p : Component → Bool) (a : Structure) → IsShaped a → AreAmong (columns_of (structure_of (filter p a.components))) (columns_of a)
left-columns p a ia = of-columns (IsAmong (columns_of a)) (structure_of (filter p a.components)) (AllByRecursion-filter (IsAmong (columns_of a)) p a.components (own-columns a ia))

-- a name that stands for a component whose role serves
name-known : (w : Wanted) (xs : List Component) (name : List ℕ) → IsName w xs name → is_known w xs name ≡ true
name-known w xs name h = ap (λ o. option_map_or (λ x. serves w x.role) o false) h.1.0 ∙ h.1.1

left-fits : (w : Wanted) (c : Choice) (names : List (List ℕ)) (a : Structure) → IsShaped a → AllByRecursion (λ x. is_identifier x ≡ true → is_chosen c names x ≡ true) a.components → AllByRecursion (IsName w a.components) names
    → Gives (λ s. IsShaped s × IsLeft a s × IsChosen w c names a s) (shaped (chosen c names a.components))
left-fits w c names a ia all are =
    shaped-gives (λ s. IsShaped s × IsLeft a s × IsChosen w c names a s) (chosen c names a.components) (λ s. (
      s,
      record {
        well_formed = s.well_formed;
        identifiers = (ap names_of same, ap (map (λ x. x.kind)) same);
        columns = left-columns (is_chosen c names) a ia;
      },
      record { known = lists.weaker (IsName w a.components) (λ name. is_known w a.components name ≡ true) names (name-known w a.components) are; shape = refl },
    ))
  where
    same : filter is_identifier (chosen c names a.components) ≡ filter is_identifier a.components
    same = filter-within is_identifier (is_chosen c names) a.components all

pub keep-fits : (w : Wanted) (names : List (List ℕ)) (a : Structure) → IsShaped a → AllByRecursion (IsName w a.components) names → Gives (λ s. IsShaped s × IsLeft a s × IsChosen w choice.Keep names a s) (shaped (chosen choice.Keep names a.components))
keep-fits w names a ia h = left-fits w choice.Keep names a ia (lists.every (λ x. is_identifier x ≡ true → is_chosen choice.Keep names x ≡ true) a.components (λ x e. ap (λ b. b || is_among x.name names) e)) h

-- an identifier is none of the names of values
not-among : (xs : List Component) (x : Component) → IsFound xs x → is_identifier x ≡ true → (names : List (List ℕ)) → AllByRecursion (IsName wanted.Value xs) names → is_among x.name names ≡ false
not-among xs x found is [] h = refl
not-among xs x found is (name ∷ names) h = go (same_name name x.name) refl (not-among xs x found is names h.1)
  where
    go : (b : Bool) → same_name name x.name ≡ b → is_among x.name names ≡ false → (b || is_among x.name names) ≡ false
    go true e ih =
        let one : component_of x.name xs ≡ Some h.0.0 = ap (λ n. component_of n xs) (sym (same_name-is name x.name e)) ∙ h.0.1.0 in
        let two : Some x ≡ Some h.0.0 = sym found ∙ one in
        let same : x ≡ h.0.0 = cc in
        absurd (false≢true (ap not (sym (ap is_identifier (sym same) ∙ is)) ∙ h.0.1.1))
    go false e ih = ih

pub drop-fits : (names : List (List ℕ)) (a : Structure) → IsShaped a → AllByRecursion (IsName wanted.Value a.components) names → Gives (λ s. IsShaped s × IsLeft a s × IsChosen wanted.Value choice.Drop names a s) (shaped (chosen choice.Drop names a.components))
drop-fits names a ia h =
    left-fits wanted.Value choice.Drop names a ia
    (lists.weaker (IsFound a.components) (λ x. is_identifier x ≡ true → is_chosen choice.Drop names x ≡ true) a.components (λ x found is. ap not (not-among a.components x found is names h)) (all-found a ia.well_formed)) h

pub name-known-gives : (w : Wanted) (xs : List Component) (before : List (List ℕ)) (name : List ℕ) → Gives (λ given. IsName w xs name × (given ≡ name)) (known_name w xs before name)
name-known-gives w xs before name = then (IsNamed w xs name) (λ given. IsName w xs name × (given ≡ name)) (known w xs before name) (λ x. Ok name) (known-gives w xs before name) (λ x is. ((x, is), refl))

names-known : (w : Wanted) (xs : List Component) (before names : List (List ℕ)) → Gives (λ given. AllByRecursion (IsName w xs) names) (in_turn (known_name w xs) before names)
names-known w xs before [] = tt
names-known w xs before (name ∷ names) =
    then (λ given. IsName w xs name × (given ≡ name)) (λ given. AllByRecursion (IsName w xs) (name ∷ names)) (known_name w xs before name) (λ given. in_turn (known_name w xs) (before ++ given ∷ []) names) (name-known-gives w xs before name)
    (λ given is. weaker (λ all. AllByRecursion (IsName w xs) names) (λ all. AllByRecursion (IsName w xs) (name ∷ names)) (in_turn (known_name w xs) (before ++ given ∷ []) names) (λ all h. (is.0, h)) (names-known w xs (before ++ given ∷ []) names))

pub member-fits : (names : List (List ℕ)) (a : Structure) → IsShaped a → Gives (λ s. IsShaped s × IsLeft a s × IsChosen wanted.Measure choice.Keep names a s) (choice_form wanted.Measure choice.Keep names a.components)
member-fits names a ia =
    then (λ u. AllByRecursion (IsName wanted.Measure a.components) names) (λ s. IsShaped s × IsLeft a s × IsChosen wanted.Measure choice.Keep names a s) (all_known wanted.Measure a.components names) (λ u. shaped (chosen choice.Keep names a.components))
    (names-known wanted.Measure a.components [] names) (λ u h. keep-fits wanted.Measure names a ia h)

-- ---- `sub`
-- a value of an identifier
abbrev pub IsItem : List Component → SubItem → Type 0
IsItem xs i = (x : Component) × IsNamed wanted.Identifier xs i.id x × (is_of x.kind i.value ≡ true)

among-items : (name : List ℕ) (items : List SubItem) → is_among name (map (λ i. i.id) items) ≡ list_any (λ i. same_name i.id name) items
among-items name [] = refl
among-items name (i ∷ items) = ap (λ b. same_name i.id name || b) (among-items name items)

pub sub-fits : (items : List SubItem) (a : Structure) → IsShaped a → AllByRecursion (IsItem a.components) items → Gives (λ s. IsShaped s × IsSub items a s) (shaped (chosen choice.Drop (map (λ i. i.id) items) a.components))
sub-fits items a ia h =
    shaped-gives (λ s. IsShaped s × IsSub items a s) (filter left a.components) (λ s. (
      s,
      record {
        well_formed = s.well_formed;
        columns = left-columns left a ia;
        shape = refl;
        left = some;
        identifiers = lists.joined (λ x. left x ≡ true → is_identifier x ≡ true → HasName ids x) (λ x. is_identifier x ≡ true) (λ x. (list_any (λ y. same_name y.name x.name) ids || list_any (λ i. same_name i.id x.name) items) ≡ true) (filter is_identifier a.components)
            each (AllByRecursion-filter (λ x. left x ≡ true → is_identifier x ≡ true → HasName ids x) is_identifier a.components kept) (all_filtered is_identifier a.components);
        values = lists.weaker (IsItem a.components) (λ i. (is_of (kind_named i.id (identifiers_of a)) i.value ≡ true) × IsColumnAt (place_of i.id (identifiers_of a)) i.id (kind_named i.id (identifiers_of a)) (identifiers_of a)) items value h;
      },
    ))
  where
    left : Component → Bool
    left = is_chosen choice.Drop (map (λ i. i.id) items)

    ids : List Component
    ids = filter is_identifier (filter left a.components)

    some : AreAmong ids (identifiers_of a)
    some =
        lists.joined (IsFound a.components) (λ x. is_identifier x ≡ true) (IsAmong (identifiers_of a)) ids (found-among is_identifier a.components)
        (AllByRecursion-filter (IsFound a.components) is_identifier (filter left a.components) (AllByRecursion-filter (IsFound a.components) left a.components (all-found a ia.well_formed)))
        (all_filtered is_identifier (filter left a.components))

    kept : AllByRecursion (λ x. left x ≡ true → is_identifier x ≡ true → HasName ids x) a.components
    kept = all_from_filtered (λ x. is_identifier x ≡ true → HasName ids x) left a.components (all_from_filtered (HasName ids) is_identifier (filter left a.components) (has-itself ids))

    each : (x : Component) → (left x ≡ true → is_identifier x ≡ true → HasName ids x) → is_identifier x ≡ true → (list_any (λ y. same_name y.name x.name) ids || list_any (λ i. same_name i.id x.name) items) ≡ true
    each x k is = go (is_among x.name (map (λ i. i.id) items)) refl
      where
        go : (b : Bool) → is_among x.name (map (λ i. i.id) items) ≡ b → (list_any (λ y. same_name y.name x.name) ids || list_any (λ i. same_name i.id x.name) items) ≡ true
        go true e = ap (λ b. list_any (λ y. same_name y.name x.name) ids || b) (sym (among-items x.name items) ∙ e) ∙ or-yes (list_any (λ y. same_name y.name x.name) ids)
          where
            or-yes : (b : Bool) → (b || true) ≡ true
            or-yes true = refl
            or-yes false = refl
        go false e = ap (λ b. b || list_any (λ i. same_name i.id x.name) items) (k (ap not e) is)

    value : (i : SubItem) → IsItem a.components i → (is_of (kind_named i.id (identifiers_of a)) i.value ≡ true) × IsColumnAt (place_of i.id (identifiers_of a)) i.id (kind_named i.id (identifiers_of a)) (identifiers_of a)
    value i v =
        let found : component_of i.id (identifiers_of a) ≡ Some v.0 = found-filter is_identifier i.id a.components v.0 v.1.0 v.1.1 in
        let kind : kind_named i.id (identifiers_of a) ≡ v.0.kind = kind-found i.id (identifiers_of a) v.0 found in
        (ap (λ kind. is_of kind i.value) kind ∙ v.2, subst (λ kind. IsColumnAt (place_of i.id (identifiers_of a)) i.id kind (identifiers_of a)) (sym kind) (at-place i.id (identifiers_of a) v.0 found))
