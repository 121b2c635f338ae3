-- Joins: the reference, with which the operands go, and what the joined set has of each operand.
use Rattle.std.proofs.Common.{◌≡◌, ℕ, Bool, true, false, cond, ◌||◌, not, List, [], ◌∷◌, ◌++◌, map, Option, Some, None, option_map, slice_get, refl, sym, ap, ◌∙◌, subst}
use Rattle.std.proofs.lemmas.Bool.{false≢true, and_parts, not-false, not-true}
use Rattle.std.proofs.lemmas.List.{map-append}
use Rattle.std.proofs.lemmas.List.Elements.{filter-append}
use Rattle.std.proofs.lemmas.List.Folds.{find_at, list_all-map}
use Rattle.std.proofs.lemmas.Option.{slice_get-map}
use Rattle.std.specs.List.{AllByRecursion, filter, find, list_all, list_any}
use Rattle.vtl_lists.proofs.Aparts.{apart_parts}
use Rattle.vtl_lists.specs.Apart.{all_apart}
use Rattle.vtl_lists.specs.Results.{◌>>=◌}
use Rattle.vtl_lists.proofs.Filters.{filter_all, found_passes}
use Rattle.vtl_lists.proofs.Alls.{all_append, all_filtered, all_from_test}
use Rattle.vtl_syntax.specs.declared.word_groups.JoinKind.{JoinKind}
use Rattle.vtl_syntax.specs.declared.word_groups.JoinKind.TheVariants as join
use Rattle.vtl_tree.specs.Structure.{names_of, of_role, same_name, same_role}
use Rattle.vtl_tree.specs.Structures.{structure_of}
use Rattle.vtl_tree.specs.declared.structure.Component.{Component}
use Rattle.vtl_tree.specs.declared.structure.Role.{Role}
use Rattle.vtl_tree.specs.declared.structure.Role.TheVariants as role
use Rattle.vtl_tree.specs.declared.structure.Structure.{Structure}
use Rattle.check_faults.specs.Rules.{Tests, ruled}
use Rattle.check_faults.specs.declared.rules.Rule.TheVariants as rule
use Rattle.vtl_tree.specs.Joins as joins
use Rattle.vtl_tree.specs.Joins.{agrees, all_go_with, all_own, clashes, go_together, go_with, goes_with, held_names, is_cross, is_exactly, is_part, joined, joined_components, joined_identifiers, own, reference, structures_of, taken}
use Rattle.check_joins.specs.Joins.{is_misused, join_form, join_tests, using_form}
use Rattle.vtl_tree.specs.declared.joins.Operand.{Operand}
use Rattle.vtl_tree.specs.Choices.{is_identifier}
use Rattle.vtl_tree.specs.Operands.{agreed_identifiers}
use Rattle.vtl_tree.specs.Pairs.{contains}
use Rattle.check_shapes.specs.Shape.{shaped}
use Rattle.vtl_tree.specs.Columns.{identifiers_of}
use Rattle.vtl_meaning.specs.Joined.{contains_all, reference_place}
use Rattle.vtl_meaning.specs.Made.{AreAmong, GoTogether, HasIdentifiers, IsJoined, component_kinds, kinds_of_all}
use Rattle.vtl_meaning.specs.Shapes.{IsJoinedFrom, IsShaped}
use Rattle.check_laws.specs.Gives.{Gives}
use Rattle.check_laws.proofs.Among.{contained-identifiers, own-identifiers, same-identifiers}
use Rattle.vtl_meaning.proofs.Lists as lists
use Rattle.vtl_meaning.proofs.Places.{same_name-sym}
use Rattle.check_laws.proofs.Shapes.{behind-identifiers, filter-mapped, filter-within, front-identifiers, role-identifier, shaped-gives}
use Rattle.check_laws.proofs.Steps.{after, tested, tested-then, then}
use Rattle.check_laws.proofs.Twins.{agreed-kinds, agreed-names, agreed-roles, maps-same}

abbrev pub aliases_of : List Operand → List (List ℕ)
aliases_of os = map (λ o. o.alias) os

-- ---- the reference
-- a search among what items become
find-mapped : {X Y : Type 0} (p : X → Bool) (q : Y → Bool) (f : X → Y) (xs : List X) → ((x : X) → q (f x) ≡ p x) → find q (map f xs) ≡ option_map f (find p xs)
find-mapped p q f [] e = refl
find-mapped p q f (x ∷ xs) e = ap (λ b. cond b (Some (f x)) (find q (map f xs))) (e x) ∙ go (p x) (find-mapped p q f xs e)
  where
    go : (b : Bool) → find q (map f xs) ≡ option_map f (find p xs) → cond b (Some (f x)) (find q (map f xs)) ≡ option_map f (cond b (Some x) (find p xs))
    go true ih = refl
    go false ih = ih

-- the place of the reference among the structures
reference-there : (kind : JoinKind) (os : List Operand) (r : Operand) → reference kind os ≡ Some r → slice_get (structures_of os) (reference_place kind (structures_of os)) ≡ Some r.structure
reference-there kind os r e = go kind e
  where
    first : slice_get os 0 ≡ Some r → slice_get (structures_of os) 0 ≡ Some r.structure
    first e = slice_get-map (λ o. o.structure) os 0 ∙ ap (option_map (λ o. o.structure)) e

    go : (kind : JoinKind) → reference kind os ≡ Some r → slice_get (structures_of os) (reference_place kind (structures_of os)) ≡ Some r.structure
    go join.Inner e =
        sym (find_at (contains_all (structures_of os)) (structures_of os))
        ∙ find-mapped (joins.contains_all os) (contains_all (structures_of os)) (λ o. o.structure) os (λ o. list_all-map (contains o.structure) (λ x. x.structure) os)
        ∙ ap (option_map (λ o. o.structure)) e
    go join.Left e = first e
    go join.Full e = first e
    go join.Cross e = first e

-- ---- the operands go with the reference
-- the first operand goes with itself, and no other one has its alias
each-goes : (P : Structure → Type 0) (test : Operand → Bool) (os : List Operand) (r : Operand) → AllByRecursion (λ o. IsShaped o.structure) os → all_apart same_name (aliases_of os) ≡ true → slice_get os 0 ≡ Some r → list_all (λ o. same_name o.alias r.alias || test o) os ≡ true
    → (IsShaped r.structure → P r.structure) → ((o : Operand) → test o ≡ true → P o.structure) → AllByRecursion P (structures_of os)
each-goes P test [] r are apart e go itself others = tt
each-goes P test (o ∷ rest) r are apart e go itself others =
    let aliases = lists.unmapped (λ alias. same_name o.alias alias ≡ false) (λ x. x.alias) rest (apart_parts same_name o.alias (aliases_of rest) apart).0 in
    let tests = all_from_test (λ x. same_name x.alias r.alias || test x) (o ∷ rest) go in
    (first, lists.mapped P (λ x. x.structure) rest (lists.joined (λ x. same_name o.alias x.alias ≡ false) (λ x. (same_name x.alias r.alias || test x) ≡ true) (λ x. P x.structure) rest other aliases tests.1))
  where
    same : o ≡ r
    same = cc

    first : P o.structure
    first = subst (λ x. P x.structure) (sym same) (itself (subst (λ x. IsShaped x.structure) same are.0))

    other : (x : Operand) → same_name o.alias x.alias ≡ false → (same_name x.alias r.alias || test x) ≡ true → P x.structure
    other x unlike goes = others x (ap (λ b. b || test x) (sym (ap (same_name x.alias) (ap (λ y. y.alias) (sym same)) ∙ same_name-sym x.alias o.alias ∙ unlike)) ∙ goes)

module _ (listed : Option (List (List ℕ))) (os : List Operand) (r : Operand) (are : AllByRecursion (λ o. IsShaped o.structure) os) (apart : all_apart same_name (aliases_of os) ≡ true) where
  -- the operand's identifiers are among those of the reference, and in a full join those of the reference among the operand's too
  abbrev Within : Structure → Type 0
  Within a = AreAmong (identifiers_of a) (identifiers_of r.structure)

  abbrev Same : Structure → Type 0
  Same a = AreAmong (identifiers_of a) (identifiers_of r.structure) × AreAmong (identifiers_of r.structure) (identifiers_of a)

  inner-together : reference join.Inner os ≡ Some r → AllByRecursion Within (structures_of os)
  inner-together e =
      lists.mapped Within (λ o. o.structure) os (lists.weaker (λ o. contains r.structure o.structure ≡ true) (λ o. Within o.structure) os (λ o c. contained-identifiers r.structure o.structure c)
      (all_from_test (λ o. contains r.structure o.structure) os (found_passes (joins.contains_all os) os r e)))

  left-together : reference join.Left os ≡ Some r → all_go_with join.Left listed r os ≡ true → AllByRecursion Within (structures_of os)
  left-together e go = each-goes Within (goes_with join.Left listed r.structure) os r are apart e go (own-identifiers r.structure) one
    where
      within : (listed : Option (List (List ℕ))) (a : Structure) → agrees join.Left listed r.structure a ≡ true → Within a
      within None a h = (same-identifiers r.structure a h).0
      within (Some names) a h = contained-identifiers r.structure a (and_parts (contains r.structure a) (is_exactly names a.components) h).0

      one : (o : Operand) → goes_with join.Left listed r.structure o ≡ true → Within o.structure
      one o h = within listed o.structure (and_parts (agrees join.Left listed r.structure o.structure) (not (list_any (clashes r.structure.components) o.structure.components)) h).0

  full-together : reference join.Full os ≡ Some r → all_go_with join.Full None r os ≡ true → AllByRecursion Same (structures_of os)
  full-together e go =
      each-goes Same (goes_with join.Full None r.structure) os r are apart e go (λ is. (own-identifiers r.structure is, own-identifiers r.structure is))
      (λ o h. same-identifiers r.structure o.structure (and_parts (agrees join.Full None r.structure o.structure) (not (list_any (clashes r.structure.components) o.structure.components)) h).0)

-- ---- the components that the joined set has of each operand
own-parts : (held : List (List ℕ)) (part : Bool) (os : List Operand) → AllByRecursion (λ x. is_part part x ≡ true) (all_own held part os)
own-parts held part [] = tt
own-parts held part (o ∷ os) = all_append (λ x. is_part part x ≡ true) (own held part o.alias o.structure.components) (all_own held part os) (one part) (own-parts held part os)
  where
    one : (part : Bool) → AllByRecursion (λ x. is_part part x ≡ true) (own held part o.alias o.structure.components)
    one true = lists.mapped (λ x. is_part true x ≡ true) (joined held o.alias) (filter (is_part true) o.structure.components) (all_filtered (is_part true) o.structure.components)
    one false = lists.mapped (λ x. is_part false x ≡ true) (joined held o.alias) (filter (is_part false) o.structure.components) (all_filtered (is_part false) o.structure.components)

-- those of a role keep their kinds
own-kinds : (held : List (List ℕ)) (part : Bool) (r : Role) (os : List Operand) → ((x : Component) → same_role x.role r ≡ true → is_part part x ≡ true) → component_kinds (filter (λ x. same_role x.role r) (all_own held part os)) ≡ kinds_of_all (of_role r) (structures_of os)
own-kinds held part r [] fits = refl
own-kinds held part r (o ∷ os) fits =
    ap component_kinds (filter-append has (own held part o.alias o.structure.components) (all_own held part os))
    ∙ map-append (λ x. x.kind) (filter has (own held part o.alias o.structure.components)) (filter has (all_own held part os))
    ∙ ap (λ l. l ++ component_kinds (filter has (all_own held part os))) one
    ∙ ap (λ l. component_kinds (of_role r o.structure) ++ l) (own-kinds held part r os fits)
  where
    has : Component → Bool
    has x = same_role x.role r

    one : component_kinds (filter has (own held part o.alias o.structure.components)) ≡ component_kinds (of_role r o.structure)
    one =
        ap component_kinds (filter-mapped has (joined held o.alias) (filter (is_part part) o.structure.components) (λ x. refl))
        ∙ maps-same (joined held o.alias) (λ x. x.kind) (filter has (filter (is_part part) o.structure.components)) (λ x. refl)
        ∙ ap component_kinds (filter-within has (is_part part) o.structure.components (lists.every (λ x. has x ≡ true → is_part part x ≡ true) o.structure.components fits))

other-role : (r q : Role) → same_role r q ≡ true → same_role q role.Identifier ≡ false → not (same_role r role.Identifier) ≡ true
other-role role.Identifier role.Identifier e n = ap not n
other-role role.Identifier role.Measure e n = absurd (false≢true e)
other-role role.Identifier role.Attribute e n = absurd (false≢true e)
other-role role.Measure q e n = refl
other-role role.Attribute q e n = refl

-- ---- the joined set
front-roles : (cross : Bool) (held : List (List ℕ)) (os : List Operand) (r : Operand) → AllByRecursion (λ x. x.role ≡ role.Identifier) (joined_identifiers cross held os (Some r))
front-roles true held os r = lists.weaker (λ x. is_part true x ≡ true) (λ x. x.role ≡ role.Identifier) (all_own held true os) role-identifier (own-parts held true os)
front-roles false held os r = agreed-roles (structures_of os) r.structure.components

no-identifiers : (held : List (List ℕ)) (os : List Operand) → AllByRecursion (λ x. is_identifier x ≡ false) (all_own held false os)
no-identifiers held os = lists.weaker (λ x. is_part false x ≡ true) (λ x. is_identifier x ≡ false) (all_own held false os) (λ x e. not-true (is_identifier x) e) (own-parts held false os)

abbrev joined_set : (cross : Bool) (held : List (List ℕ)) (os : List Operand) → Option Operand → Structure
joined_set cross held os r = structure_of (joined_identifiers cross held os r ++ all_own held false os)

other-kinds : (cross : Bool) (held : List (List ℕ)) (os : List Operand) (r : Operand) (q : Role) → same_role role.Identifier q ≡ false → same_role q role.Identifier ≡ false → component_kinds (of_role q (joined_set cross held os (Some r))) ≡ kinds_of_all (of_role q) (structures_of os)
other-kinds cross held os r q before after =
    ap component_kinds (behind-identifiers q (joined_identifiers cross held os (Some r)) (all_own held false os) before (front-roles cross held os r))
    ∙ own-kinds held false q os (λ x e. other-role x.role q e after)

has-reference : (held : List (List ℕ)) (os : List Operand) (r : Operand) → HasIdentifiers (joined_set false held os (Some r)) (identifiers_of r.structure)
has-reference held os r =
    let same = front-identifiers (agreed_identifiers (structures_of os) r.structure.components) (all_own held false os) (front-roles false held os r) (no-identifiers held os) in
    (ap names_of same ∙ agreed-names (structures_of os) r.structure.components, ap component_kinds same ∙ agreed-kinds (structures_of os) r.structure.components)

cross-kinds : (held : List (List ℕ)) (os : List Operand) (r : Operand) → component_kinds (identifiers_of (joined_set true held os (Some r))) ≡ kinds_of_all identifiers_of (structures_of os)
cross-kinds held os r =
    ap component_kinds (front-identifiers (all_own held true os) (all_own held false os) (front-roles true held os r) (no-identifiers held os))
    ∙ ap component_kinds (sym (filter_all is_identifier (all_own held true os) (own-parts held true os)))
    ∙ own-kinds held true role.Identifier os (λ x e. e)

identifiers-together : (kind : JoinKind) (listed : Option (List (List ℕ))) (held : List (List ℕ)) (os : List Operand) (r : Operand) → AllByRecursion (λ o. IsShaped o.structure) os → all_apart same_name (aliases_of os) ≡ true → reference kind os ≡ Some r → go_with kind (taken kind listed) os (Some r) ≡ true
    → GoTogether kind r.structure (structures_of os) (joined_set (is_cross kind) held os (Some r))
identifiers-together join.Inner listed held os r are apart e go = (has-reference held os r, inner-together listed os r are apart e)
identifiers-together join.Left listed held os r are apart e go = (has-reference held os r, left-together listed os r are apart e go)
identifiers-together join.Full listed held os r are apart e go = (has-reference held os r, full-together None os r are apart e go)
identifiers-together join.Cross listed held os r are apart e go = cross-kinds held os r

joined-fits : (kind : JoinKind) (listed : Option (List (List ℕ))) (os : List Operand) → AllByRecursion (λ o. IsShaped o.structure) os → all_apart same_name (aliases_of os) ≡ true → go_together kind (taken kind listed) os ≡ true → IsShaped (structure_of (joined_components kind (held_names kind os) os)) → IsJoined kind (structures_of os) (structure_of (joined_components kind (held_names kind os) os))
joined-fits kind listed os are apart together s = go (reference kind os) refl together s
  where
    held : List (List ℕ)
    held = held_names kind os

    go : (o : Option Operand) → reference kind os ≡ o → go_with kind (taken kind listed) os o ≡ true → IsShaped (joined_set (is_cross kind) held os o) → IsJoined kind (structures_of os) (joined_set (is_cross kind) held os o)
    go None e t s = absurd (false≢true t)
    go (Some r) e t s = record {
      well_formed = s.well_formed;
      reference = r.structure;
      there = reference-there kind os r e;
      identifiers = identifiers-together kind listed held os r are apart e t;
      measures = other-kinds (is_cross kind) held os r role.Measure refl refl;
      attributes = other-kinds (is_cross kind) held os r role.Attribute refl refl;
    }

pub join-fits : (kind : JoinKind) (listed : Option (List (List ℕ))) (os : List Operand) → AllByRecursion (λ o. IsShaped o.structure) os → all_apart same_name (aliases_of os) ≡ true → Gives (λ s. IsShaped s × IsJoined kind (structures_of os) s × IsJoinedFrom kind os s) (join_form kind listed os)
join-fits kind listed os are apart =
    after Q (using_form os listed) (λ u. ruled (join_tests kind (taken kind listed) os) (tt {0}) >>= λ v. shaped made >>= λ s. ruled misuse s)
    (λ u. tested-then Q (join_tests kind (taken kind listed) os) (λ v. shaped made >>= λ s. ruled misuse s)
    (λ passed. then Q Q (shaped made) (λ s. ruled misuse s) (shaped-gives Q made (λ s. (s, joined-fits kind listed os are apart (not-false (go_together kind (taken kind listed) os) passed.0) s, refl))) (λ s is. tested Q misuse s (λ p. is))))
  where
    Q : Structure → Type 0
    Q s = IsShaped s × IsJoined kind (structures_of os) s × IsJoinedFrom kind os s

    made : List Component
    made = joined_components kind (held_names kind os) os

    misuse : Tests
    misuse = (rule.JoinMisuse, is_misused kind listed) ∷ []
