-- Operators on the measures of two operands.
use Rattle.std.proofs.Common.{◌≡◌, ℕ, Bool, true, false, cond, ◌||◌, not, List, [], ◌∷◌, ◌++◌, length, Some, None, is_none, refl, sym, ap, ◌∙◌, subst}
use Rattle.std.specs.List.{AllByRecursion, filter}
use Rattle.std.proofs.lemmas.Bool.{and_parts, not-false, or_parts}
use Rattle.vtl_lists.proofs.Sorts.{AllByRecursion-filter}
use Rattle.vtl_lists.proofs.Alls.{all_filtered, all_with}
use Rattle.vtl_decimal.specs.Settings.{Settings}
use Rattle.vtl_cell.specs.ScalarKinds.{kinds_of}
use Rattle.vtl_cell.specs.declared.kind.Kind.{Kind}
use Rattle.vtl_cell.specs.declared.operator.ScalarOp.{ScalarOp}
use Rattle.vtl_tree.specs.CompExp.{CompExp, CompExps}
use Rattle.vtl_tree.specs.Structure.{columns_of, same_role}
use Rattle.vtl_tree.specs.Structures.{structure_of}
use Rattle.vtl_tree.specs.View.{comp_exps_of}
use Rattle.vtl_tree.specs.declared.structure.Component.{Component}
use Rattle.vtl_tree.specs.declared.structure.Role.TheVariants as role
use Rattle.vtl_tree.specs.declared.structure.Structure.{Structure}
use Rattle.vtl_tree.specs.Choices.{is_identifier}
use Rattle.vtl_tree.specs.Measures.{Gives as GivesKind, any_unmet, given_measures, is_measure, is_miscounted, measure_kind, measures, namesake, paired}
use Rattle.vtl_tree.specs.Names.{component_of}
use Rattle.vtl_tree.specs.Operands.{agree, agreed, agreed_identifiers, is_within}
use Rattle.vtl_tree.specs.Pairs.{contains, pair_identifiers}
use Rattle.check_shapes.specs.Pairs.{pair_form, pair_tests}
use Rattle.check_shapes.specs.Shape.{shaped}
use Rattle.vtl_tree.specs.declared.measures.Outcome.{Outcome}
use Rattle.vtl_tree.specs.declared.operands.Compared.TheVariants as compared
use Rattle.vtl_tree.specs.Kinds.{exp_kind}
use Rattle.vtl_tree.specs.Columns.{column_behind, column_named, columns_named, identifiers_of, measures_of}
use Rattle.vtl_meaning.specs.Literals.{are_literals}
use Rattle.vtl_meaning.specs.Made.{AreFor, HasIdentifiers, IsPaired}
use Rattle.vtl_meaning.specs.Operators.{for_measures, with_namesake}
use Rattle.vtl_meaning.specs.Shapes.{IsShaped, given_of_two, outcome_of}
use Rattle.check_laws.specs.Gives.{ArePassed, Gives}
use Rattle.vtl_meaning.proofs.FoundColumns.{IsFound, in-columns, into-columns}
use Rattle.check_laws.proofs.Expressions.{IsFor, call-typed, named-after, named-before}
use Rattle.vtl_meaning.proofs.Lists as lists
use Rattle.check_laws.proofs.Measured.{IsGivenBy, for-given, for-parts, given-kind, given-roles, given_of, has-identifiers, met-measures}
use Rattle.check_laws.proofs.Shapes.{AreParts, shaped-gives}
use Rattle.check_laws.proofs.Steps.{tested-then}
use Rattle.vtl_tree.proofs.Twins.{HasTwin}
use Rattle.check_laws.proofs.Twins.{agreed-kind, agreed-kinds, agreed-name, agreed-names, agreed-roles, within-twins}

-- a measure of the first operand with its namesake, and the measure that they become
record IsMatched (o : ScalarOp) (a b : Structure) (x z : Component) : Type 0 where
  other : Component
  left : component_of x.name (columns_of a) ≡ Some x
  right : component_of x.name (columns_of b) ≡ Some other
  kind : kinds_of o (x.kind ∷ other.kind ∷ []) ≡ Some z.kind

matched-for : (p : Settings) (xs : List Component) (o : ScalarOp) (a b : Structure) (left right : List ℕ → CompExp) (x z : Component) → ((es : CompExps) → are_literals o es ≡ true) → (m : IsMatched o a b x z) → IsFor p xs (left x.name) x → IsFor p xs (right x.name) m.other → IsFor p xs (with_namesake o left right x z) z
matched-for p xs o a b left right x z fit m l r =
    (call-typed p xs o z.kind (left x.name ∷ right x.name ∷ []) (ap (λ kind. kinds_of o (kind ∷ exp_kind (right x.name) ∷ [])) l.1 ∙ ap (λ kind. kinds_of o (x.kind ∷ kind ∷ [])) r.1 ∙ m.kind) (l.0, (r.0, tt)) (fit (comp_exps_of (right x.name ∷ []))), refl)

-- the measures of two operands with the same ones
matched : (oc : Outcome) (o : ScalarOp) (g : GivesKind) (a b : Structure) → IsShaped a → IsShaped b → IsGivenBy oc o → ((x y : Kind) → g x y ≡ kinds_of o (x ∷ y ∷ [])) → any_unmet g (Some b.components) a.components ≡ false → is_within compared.Names role.Measure a.components b.components ≡ true
    → AllByRecursion (λ x. IsMatched o a b x (given_of oc g (Some b.components) x)) (measures a.components)
matched oc o g a b ia ib by row met within =
    lists.joined (λ x. is_none (paired g x.kind (namesake (Some b.components) x)) ≡ false) (λ x. (IsFound (columns_of a) x × HasTwin compared.Names b.components x) × (is_measure x ≡ true)) (λ x. IsMatched o a b x (given_of oc g (Some b.components) x)) (measures a.components) one
    (met-measures g (Some b.components) a.components met)
    (all_with (λ x. IsFound (columns_of a) x × HasTwin compared.Names b.components x) (λ x. is_measure x ≡ true) (measures a.components)
    (all_with (IsFound (columns_of a)) (HasTwin compared.Names b.components) (measures a.components) (AllByRecursion-filter (IsFound (columns_of a)) is_measure a.components (in-columns a ia.well_formed)) (within-twins compared.Names role.Measure a.components b.components within))
    (all_filtered is_measure a.components))
  where
    one : (x : Component) → is_none (paired g x.kind (namesake (Some b.components) x)) ≡ false → (IsFound (columns_of a) x × HasTwin compared.Names b.components x) × (is_measure x ≡ true) → IsMatched o a b x (given_of oc g (Some b.components) x)
    one x met h = record {
      other = h.0.1.twin;
      left = h.0.0;
      right = into-columns b ib.well_formed x.name h.0.1.twin h.0.1.found;
      kind = given-kind oc o g (Some b.components) x (x.kind ∷ h.0.1.twin.kind ∷ []) by (ap (paired g x.kind) same ∙ row x.kind h.0.1.twin.kind) met;
    }
      where
        same : namesake (Some b.components) x ≡ Some h.0.1.twin.kind
        same = ap measure_kind h.0.1.found ∙ ap (λ b. cond b (Some h.0.1.twin.kind) None) (ap (λ r. same_role r role.Measure) (sym h.0.1.role) ∙ h.1)

-- the identifiers of the operand whose points come first
abbrev ids-of : Bool → Structure → Structure → List Component
ids-of first a b = cond first (agreed_identifiers (b ∷ []) a.components) (agreed_identifiers (a ∷ []) b.components)

ids-roles : (first : Bool) (a b : Structure) → AllByRecursion (λ x. x.role ≡ role.Identifier) (ids-of first a b)
ids-roles true a b = agreed-roles (b ∷ []) a.components
ids-roles false a b = agreed-roles (a ∷ []) b.components

ids-has : (first : Bool) (a b : Structure) (ms : List Component) → AreParts (ids-of first a b) ms → HasIdentifiers (structure_of (ids-of first a b ++ ms)) (identifiers_of (cond first a b))
ids-has true a b ms are = has-identifiers (ids-of true a b) ms (filter is_identifier a.components) are (agreed-names (b ∷ []) a.components) (agreed-kinds (b ∷ []) a.components)
ids-has false a b ms are = has-identifiers (ids-of false a b) ms (filter is_identifier b.components) are (agreed-names (a ∷ []) b.components) (agreed-kinds (a ∷ []) b.components)

-- the identifiers of one operand, as columns before those of the other
ids-for : (p : Settings) (others : List Structure) (a : Structure) (more : List Component) → IsShaped a → AllByRecursion (λ y. IsFor p (columns_of a ++ more) (column_named (columns_of a) y.name) y) (agreed_identifiers others a.components)
ids-for p others a more is =
    lists.mapped (λ y. IsFor p (columns_of a ++ more) (column_named (columns_of a) y.name) y) (agreed others) (filter is_identifier a.components)
    (AllByRecursion-filter (λ y. IsFor p (columns_of a ++ more) (column_named (columns_of a) (agreed others y).name) (agreed others y)) is_identifier a.components
    (lists.weaker (IsFound (columns_of a)) (λ y. IsFor p (columns_of a ++ more) (column_named (columns_of a) (agreed others y).name) (agreed others y)) a.components one (in-columns a is.well_formed)))
  where
    one : (y : Component) → IsFound (columns_of a) y → IsFor p (columns_of a ++ more) (column_named (columns_of a) (agreed others y).name) (agreed others y)
    one y found =
        let f = named-before p (columns_of a) more (agreed others y).name y (ap (λ name. component_of name (columns_of a)) (agreed-name others y) ∙ found) in
        (f.0, f.1 ∙ sym (agreed-kind others y))

pub paired-fits : (p : Settings) (oc : Outcome) (o : ScalarOp) (a b : Structure) → IsShaped a → IsShaped b → IsGivenBy oc o → oc ≡ outcome_of o → ((es : CompExps) → are_literals o es ≡ true)
    → Gives (λ s. IsShaped s × IsPaired p o a b s) (pair_form oc (given_of_two o) a b)
paired-fits p oc o a b ia ib by same fit =
    tested-then Q (pair_tests oc g a b) (λ u. shaped (pair_identifiers a b ++ ms))
    (λ passed. shaped-gives Q (pair_identifiers a b ++ ms) (λ s. (
      s,
      record {
        well_formed = s.well_formed;
        contained = not-false (contains a b || contains b a) passed.1.0;
        identifiers = ids-has (contains a b) a b ms (are (contains a b));
        columns = columns passed (contains a b);
        counted = subst (λ oc. is_miscounted oc (length (measures a.components)) ≡ false) same (measure-tests passed).1;
        alike = not-false (agree compared.Names role.Measure a.components b.components) (measure-tests passed).0;
        shape = ap (λ oc. pair_identifiers a b ++ given_measures oc g (Some b.components) a.components) same;
      },
    )))
  where
    Q : Structure → Type 0
    Q s = IsShaped s × IsPaired p o a b s

    g : GivesKind
    g = given_of_two o

    measure-tests : ArePassed (pair_tests oc g a b) → (not (agree compared.Names role.Measure a.components b.components) ≡ false) × (is_miscounted oc (length (measures a.components)) ≡ false)
    measure-tests passed = or_parts (not (agree compared.Names role.Measure a.components b.components)) (is_miscounted oc (length (measures a.components))) passed.1.1.0

    ms : List Component
    ms = given_measures oc g (Some b.components) a.components

    are : (first : Bool) → AreParts (ids-of first a b) ms
    are first = record { identifiers = ids-roles first a b; measures = given-roles oc g (Some b.components) a.components }

    z : Component → Component
    z x = given_of oc g (Some b.components) x

    for-ms : ArePassed (pair_tests oc g a b) → (xs : List Component) (left right : List ℕ → CompExp) → ((x : Component) → component_of x.name (columns_of a) ≡ Some x → IsFor p xs (left x.name) x) → ((name : List ℕ) (y : Component) → component_of name (columns_of b) ≡ Some y → IsFor p xs (right name) y)
        → AreFor p xs (for_measures (with_namesake o left right) (measures a.components) ms) ms
    for-ms passed xs left right l r =
        let tests = measure-tests passed in
        let within = and_parts (is_within compared.Names role.Measure a.components b.components) (is_within compared.Names role.Measure b.components a.components) (not-false (agree compared.Names role.Measure a.components b.components) tests.0) in
        for-given p xs oc o g (Some b.components) (with_namesake o left right) a.components by tests.1
        (lists.weaker (λ x. IsMatched o a b x (z x)) (λ x. IsFor p xs (with_namesake o left right x (z x)) (z x)) (measures a.components)
        (λ x m. matched-for p xs o a b left right x (z x) fit m (l x m.left) (r x.name m.other m.right))
        (matched oc o g a b ia ib by (λ x y. refl) passed.0 within.0))

    columns : ArePassed (pair_tests oc g a b) → (first : Bool)
        → AreFor p (cond first (columns_of a ++ columns_of b) (columns_of b ++ columns_of a))
        (cond first
        (columns_named (columns_of a) (identifiers_of (structure_of (ids-of first a b ++ ms))) ++ for_measures (with_namesake o (column_named (columns_of a)) (column_behind (length (columns_of a)) (columns_of b))) (measures_of a) (measures_of (structure_of (ids-of first a b ++ ms))))
        (columns_named (columns_of b) (identifiers_of (structure_of (ids-of first a b ++ ms))) ++ for_measures (with_namesake o (column_behind (length (columns_of b)) (columns_of a)) (column_named (columns_of b))) (measures_of a) (measures_of (structure_of (ids-of first a b ++ ms)))))
        (columns_of (structure_of (ids-of first a b ++ ms)))
    columns passed true =
        for-parts p (columns_of a ++ columns_of b) (ids-of true a b) ms (columns_of a) (with_namesake o (column_named (columns_of a)) (column_behind (length (columns_of a)) (columns_of b))) (measures a.components) (are true) (ids-for p (b ∷ []) a (columns_of b) ia)
        (for-ms passed (columns_of a ++ columns_of b) (column_named (columns_of a)) (column_behind (length (columns_of a)) (columns_of b)) (λ x e. named-before p (columns_of a) (columns_of b) x.name x e) (λ name y e. named-after p (columns_of a) (columns_of b) name y e))
    columns passed false =
        for-parts p (columns_of b ++ columns_of a) (ids-of false a b) ms (columns_of b) (with_namesake o (column_behind (length (columns_of b)) (columns_of a)) (column_named (columns_of b))) (measures a.components) (are false) (ids-for p (a ∷ []) b (columns_of a) ib)
        (for-ms passed (columns_of b ++ columns_of a) (column_behind (length (columns_of b)) (columns_of a)) (column_named (columns_of b)) (λ x e. named-after p (columns_of b) (columns_of a) x.name x e) (λ name y e. named-before p (columns_of b) (columns_of a) name y e))
