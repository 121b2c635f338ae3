-- Set operators and `exists_in`.
use Rattle.std.proofs.Common.{◌≡◌, ℕ, Bool, true, false, cond, ◌||◌, not, ◌&&◌, List, [], ◌∷◌, ◌++◌, Some, refl, sym, ap, ◌∙◌, subst}
use Rattle.std.proofs.lemmas.Bool.{false≢true, not-false, or_parts}
use Rattle.std.specs.List.{AllByRecursion, list_any}
use Rattle.std.specs.Option.{option_map_or}
use Rattle.vtl_lists.proofs.Alls.{all_filtered, all_from_test, all_kept, all_with}
use Rattle.vtl_lists.proofs.Aparts.{none_same}
use Rattle.vtl_tree.specs.Structure.{columns_of, names_of, same_name, same_role}
use Rattle.vtl_tree.specs.Structures.{structure_of}
use Rattle.vtl_tree.specs.declared.structure.Component.{Component}
use Rattle.vtl_tree.specs.declared.structure.Role.TheVariants as role
use Rattle.vtl_tree.specs.declared.structure.Structure.{Structure}
use Rattle.vtl_tree.specs.Choices.{is_identifier}
use Rattle.vtl_tree.specs.Measures.{bool_var, measures}
use Rattle.vtl_tree.specs.Names.{component_of, is_among}
use Rattle.vtl_tree.specs.Operands.{agree, agreed, agreed_identifiers, all_agree, is_alike, is_there}
use Rattle.vtl_tree.specs.Pairs.{is_common}
use Rattle.check_shapes.specs.Pairs.{exists_form, exists_tests, is_at_odds, set_form, set_tests}
use Rattle.check_shapes.specs.Shape.{shaped}
use Rattle.vtl_tree.specs.declared.operands.Compared.TheVariants as compared
use Rattle.vtl_tree.proofs.Twins.{HasTwin, there-twin}
use Rattle.vtl_tree.specs.Columns.{common_identifiers, has_identifier, identifiers_of, measures_of, place_of}
use Rattle.vtl_meaning.specs.Made.{AreAmong, IsAlternative, IsColumnAt, IsCombined, IsExistence, component_kinds}
use Rattle.vtl_meaning.specs.Shapes.{IsShaped}
use Rattle.check_laws.specs.Gives.{ArePassed, Gives}
use Rattle.check_laws.proofs.Among.{IsAmong, among-mapped, mapped-among, own-identifiers, own-measures, same-identifiers, same-measures}
use Rattle.vtl_meaning.proofs.FoundColumns.{IsFound, all-found, at-found, at-place, name-found}
use Rattle.vtl_meaning.proofs.Lists as lists
use Rattle.check_laws.proofs.Measured.{has-identifiers}
use Rattle.check_laws.proofs.Shapes.{AreParts, measure-roles, parts-columns, parts-identifiers, parts-measures, parts-others, role-identifier, shaped-gives}
use Rattle.check_laws.proofs.Steps.{tested-then}
use Rattle.check_laws.proofs.Twins.{agreed-kind, agreed-kinds, agreed-name, agreed-names, agreed-roles}

-- ---- set operators
pub combined-fits : (a : Structure) (bs : List Structure) → IsShaped a → AllByRecursion IsShaped bs → Gives (λ s. IsShaped s × IsCombined a bs s) (set_form a bs)
combined-fits a bs ia ibs = tested-then Q (set_tests a bs) (λ u. shaped (ids ++ ms)) (λ passed. shaped-gives Q (ids ++ ms) (λ s. (s, fits passed s)))
  where
    Q : Structure → Type 0
    Q s = IsShaped s × IsCombined a bs s

    ids : List Component
    ids = agreed_identifiers bs a.components

    ms : List Component
    ms = measures a.components

    result : Structure
    result = structure_of (ids ++ ms)

    are : AreParts ids ms
    are = record { identifiers = agreed-roles bs a.components; measures = measure-roles a.components }

    alternative : (b : Structure) → AreAmong (identifiers_of b) (identifiers_of a) → AreAmong (identifiers_of a) (identifiers_of b) → AreAmong (measures_of a) (columns_of b) → IsAlternative result b result
    alternative b there back own = record {
      there = subst (AreAmong (identifiers_of b)) (sym (parts-identifiers ids ms are)) (among-mapped (agreed bs) (agreed-name bs) (agreed-kind bs) (identifiers_of a) (identifiers_of b) there);
      back = subst (λ l. AreAmong l (identifiers_of b)) (sym (parts-identifiers ids ms are)) (mapped-among (agreed bs) (agreed-name bs) (agreed-kind bs) (identifiers_of a) (identifiers_of b) back);
      measures = subst (λ l. AreAmong l (columns_of b)) (sym (parts-measures ids ms are)) own;
    }

    Alike : Structure → Type 0
    Alike b = (agree compared.Kinds role.Identifier a.components b.components ≡ true) × (agree compared.Kinds role.Measure a.components b.components ≡ true)

    other : (b : Structure) → Alike b → IsShaped b → IsAlternative result b result
    other b alike ib = let both = same-identifiers a b alike.0 in alternative b both.0 both.1 (same-measures a b ib alike.1)

    alike : ArePassed (set_tests a bs) → AllByRecursion Alike bs
    alike passed =
        all_with (λ b. agree compared.Kinds role.Identifier a.components b.components ≡ true) (λ b. agree compared.Kinds role.Measure a.components b.components ≡ true) bs
        (all_from_test (λ b. agree compared.Kinds role.Identifier a.components b.components) bs (not-false (all_agree compared.Kinds role.Identifier a.components bs) passed.0))
        (all_from_test (λ b. agree compared.Kinds role.Measure a.components b.components) bs (not-false (all_agree compared.Kinds role.Measure a.components bs) passed.1.0))

    fits : ArePassed (set_tests a bs) → IsShaped result → IsCombined a bs result
    fits passed s = record {
      well_formed = s.well_formed;
      identifiers = has-identifiers ids ms (identifiers_of a) are (agreed-names bs a.components) (agreed-kinds bs a.components);
      operands = (alternative a (own-identifiers a ia) (own-identifiers a ia) (own-measures a ia), lists.joined Alike IsShaped (λ b. IsAlternative result b result) bs other (alike passed) ibs);
      no_attributes = parts-columns ids ms are ∙ ap (λ l. l ++ ms) (sym (parts-identifiers ids ms are)) ∙ ap (λ l. identifiers_of result ++ l) (sym (parts-measures ids ms are));
      shape = refl;
    }

-- ---- `exists_in`
-- a name among others is that of a component
named-found : (name : List ℕ) (xs : List Component) → is_among name (names_of xs) ≡ true → (x : Component) × (component_of name xs ≡ Some x)
named-found name [] e = absurd (false≢true e)
named-found name (x ∷ xs) e = go (same_name x.name name) e (named-found name xs)
  where
    go : (b : Bool) → (b || is_among name (names_of xs)) ≡ true → (is_among name (names_of xs) ≡ true → (y : Component) × (component_of name xs ≡ Some y)) → (y : Component) × (cond b (Some x) (component_of name xs) ≡ Some y)
    go true e ih = (x, refl)
    go false e ih = ih e

-- an identifier of the first operand that is at odds with none of the second
abbrev IsAtPeace : Structure → Component → Type 0
IsAtPeace b x = (is_at_odds b x ≡ false) × (is_identifier x ≡ true)

-- has the kind of the second one's identifier of its name
peaceful-kind : (b : Structure) (x i : Component) → IsAtPeace b x → is_identifier i ≡ true → component_of x.name b.components ≡ Some i → x.kind ≡ i.kind
peaceful-kind b x i peace is found = twin.kind ∙ ap (λ y. y.kind) same
  where
    common : is_common b x ≡ true
    common = ap (λ o. option_map_or (is_alike compared.Names x) o false) found ∙ ap (λ r. same_role r i.role) (role-identifier x peace.1) ∙ ap (λ r. same_role role.Identifier r) (role-identifier i is)

    twin : HasTwin compared.Kinds b.components x
    twin = there-twin compared.Kinds b.components x (not-false (is_there compared.Kinds b.components x) (ap (λ c. c && not (is_there compared.Kinds b.components x)) (sym common) ∙ peace.0))

    same : twin.twin ≡ i
    same = let two : Some twin.twin ≡ Some i = sym twin.found ∙ found in cc

pub exists-fits : (a b : Structure) → IsShaped b → Gives (λ s. IsShaped s × IsExistence a b s) (exists_form a b)
exists-fits a b ib = tested-then Q (exists_tests a b) (λ u. shaped (ids ++ bool_var ∷ [])) (λ passed. shaped-gives Q (ids ++ bool_var ∷ []) (λ s. (s, fits passed s)))
  where
    Q : Structure → Type 0
    Q s = IsShaped s × IsExistence a b s

    ids : List Component
    ids = agreed_identifiers (b ∷ []) a.components

    are : AreParts ids (bool_var ∷ [])
    are = record { identifiers = agreed-roles (b ∷ []) a.components; measures = (refl, tt) }

    Common : Component → Type 0
    Common i = IsFound b.components i × (is_identifier i ≡ true)

    all : AllByRecursion Common (identifiers_of b)
    all = all_kept (IsFound b.components) is_identifier b.components (all-found b ib.well_formed)

    fits : ArePassed (exists_tests a b) → IsShaped (structure_of (ids ++ bool_var ∷ [])) → IsExistence a b (structure_of (ids ++ bool_var ∷ []))
    fits passed s = record {
      well_formed = s.well_formed;
      identifiers = has-identifiers ids (bool_var ∷ []) (identifiers_of a) are (agreed-names (b ∷ []) a.components) (agreed-kinds (b ∷ []) a.components);
      truth = ap component_kinds (parts-others ids (bool_var ∷ []) are);
      common = lists.weaker (λ i. Common i × (has_identifier a i.name ≡ true)) (IsAmong (identifiers_of a)) (common_identifiers a b) one (all_kept Common (λ i. has_identifier a i.name) (identifiers_of b) all);
      shape = refl;
    }
      where
        peace : AllByRecursion (IsAtPeace b) (identifiers_of a)
        peace =
            all_with (λ x. is_at_odds b x ≡ false) (λ x. is_identifier x ≡ true) (identifiers_of a) (none_same (is_at_odds b) (identifiers_of a) (or_parts (not (list_any (is_common b) (identifiers_of a))) (list_any (is_at_odds b) (identifiers_of a)) passed.0).1)
            (all_filtered is_identifier a.components)

        one : (i : Component) → Common i × (has_identifier a i.name ≡ true) → IsAmong (identifiers_of a) i
        one i h =
            let mine = named-found i.name (identifiers_of a) h.1 in
            let same = name-found i.name (identifiers_of a) mine.0 mine.1 in
            subst (λ kind. IsColumnAt (place_of i.name (identifiers_of a)) i.name kind (identifiers_of a))
            (peaceful-kind b mine.0 i (at-found (IsAtPeace b) i.name (identifiers_of a) mine.0 peace mine.1) h.0.1 (ap (λ name. component_of name b.components) same ∙ h.0.0))
            (at-place i.name (identifiers_of a) mine.0 mine.1)
