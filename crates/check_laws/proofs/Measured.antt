-- Operators on the measures of one operand.
use Rattle.std.proofs.Common.{◌≡◌, Bool, true, false, ◌&&◌, List, [], ◌∷◌, ◌++◌, length, map, Option, Some, None, is_none, refl, sym, ap, ◌∙◌, subst, true≢false, arith}
use Rattle.std.proofs.lemmas.Bool.{eqb-true, not-false}
use Rattle.std.proofs.lemmas.List.{map-append}
use Rattle.std.specs.List.{AllByRecursion, filter}
use Rattle.std.specs.Prelude.{nat_eq, unwrap_or}
use Rattle.vtl_lists.proofs.Sorts.{AllByRecursion-filter}
use Rattle.vtl_lists.proofs.Aparts.{none_same}
use Rattle.vtl_lists.proofs.Alls.{all_append, all_kept}
use Rattle.vtl_decimal.specs.Settings.{Settings}
use Rattle.vtl_cell.specs.ScalarKinds.{kinds_of}
use Rattle.vtl_cell.specs.declared.kind.Kind.{Kind}
use Rattle.vtl_cell.specs.declared.kind.Kind.TheVariants as k
use Rattle.vtl_cell.specs.declared.operator.ScalarOp.{ScalarOp}
use Rattle.vtl_tree.specs.CompExp.{CompExp}
use Rattle.vtl_tree.specs.Structure.{columns_of, names_of}
use Rattle.vtl_tree.specs.Structures.{structure_of}
use Rattle.vtl_tree.specs.View.{comp_exps_of}
use Rattle.vtl_tree.specs.declared.structure.Component.{Component}
use Rattle.vtl_tree.specs.declared.structure.Role.TheVariants as role
use Rattle.vtl_tree.specs.declared.structure.Structure.{Structure}
use Rattle.vtl_tree.specs.Trees.{MeasureTree}
use Rattle.vtl_tree.specs.Choices.{chosen, is_identifier}
use Rattle.vtl_tree.specs.Measures.{Gives as GivesKind, any_unmet, bool_var, given_measure, given_measures, is_measure, is_miscounted, is_unmet, measures, namesake, paired}
use Rattle.check_shapes.specs.Measures.{measured_form, measured_tests}
use Rattle.check_shapes.specs.Shape.{shaped}
use Rattle.vtl_tree.specs.declared.choices.Choice.TheVariants as choice
use Rattle.vtl_tree.specs.declared.measures.Outcome.{Outcome}
use Rattle.vtl_tree.specs.declared.measures.Outcome.TheVariants as outcome
use Rattle.vtl_tree.specs.Kinds.{exp_kind}
use Rattle.vtl_tree.specs.Columns.{column_named, columns_named, identifiers_of, measures_of}
use Rattle.vtl_meaning.specs.Literals.{HasLiterals}
use Rattle.vtl_meaning.specs.Made.{AreFor, HasIdentifiers, IsMeasured, IsTyped}
use Rattle.vtl_meaning.specs.Operators.{for_measures, with_measure}
use Rattle.vtl_meaning.specs.Shapes.{IsShaped, given_between, outcome_of}
use Rattle.check_laws.specs.Gives.{Gives}
use Rattle.vtl_meaning.proofs.FoundColumns.{IsFound, in-columns}
use Rattle.check_laws.proofs.Expressions.{IsFor, call-typed, for-append, for-map, named-for}
use Rattle.vtl_meaning.proofs.Lists as lists
use Rattle.vtl_timing.proofs.FlowsKept.{all_identify}
use Rattle.check_laws.proofs.Shapes.{AreParts, identifier-roles, parts-columns, parts-identifiers, parts-measures, shaped-gives}
use Rattle.check_laws.proofs.Steps.{tested-then}

-- ---- what an operator gives of measures
-- the operator gives each measure, or a truth
abbrev pub IsGivenBy : Outcome → ScalarOp → Type 0
IsGivenBy outcome.Each op = Unit {0}
IsGivenBy outcome.Truth op = (kinds : List Kind) (kind : Kind) → kinds_of op kinds ≡ Some kind → kind ≡ k.Bool
IsGivenBy outcome.All op = ⊥
IsGivenBy outcome.Count op = ⊥

-- the measure that a measure becomes
abbrev pub given_of : Outcome → GivesKind → Option (List Component) → Component → Component
given_of outcome.Truth g others x = bool_var
given_of o g others x = given_measure g others x

-- its kind
pub given-kind : (o : Outcome) (op : ScalarOp) (g : GivesKind) (others : Option (List Component)) (x : Component) (kinds : List Kind) → IsGivenBy o op → paired g x.kind (namesake others x) ≡ kinds_of op kinds → is_none (paired g x.kind (namesake others x)) ≡ false → kinds_of op kinds ≡ Some (given_of o g others x).kind
given-kind o op g others x kinds by same met = go o by (paired g x.kind (namesake others x)) refl met
  where
    go : (o : Outcome) → IsGivenBy o op → (m : Option Kind) → paired g x.kind (namesake others x) ≡ m → is_none m ≡ false → kinds_of op kinds ≡ Some (given_of o g others x).kind
    go o by None e n = absurd (true≢false n)
    go outcome.Each by (Some kind) e n = sym same ∙ e ∙ ap Some (sym (ap (λ m. unwrap_or m x.kind) e))
    go outcome.Truth by (Some kind) e n = let s : kinds_of op kinds ≡ Some kind = sym same ∙ e in s ∙ ap Some (by kinds kind s)
    go outcome.All by (Some kind) e n = absurd by
    go outcome.Count by (Some kind) e n = absurd by

-- expressions for the measures, each typed for what its measure becomes
pub for-given : (p : Settings) (xs : List Component) (o : Outcome) (op : ScalarOp) (g : GivesKind) (others : Option (List Component)) (f : Component → Component → CompExp) (us : List Component)
    → IsGivenBy o op → is_miscounted o (length (measures us)) ≡ false → AllByRecursion (λ x. IsFor p xs (f x (given_of o g others x)) (given_of o g others x)) (measures us)
    → AreFor p xs (for_measures f (measures us) (given_measures o g others us)) (given_measures o g others us)
for-given p xs o op g others f us by counted all = go o by counted all
  where
    each : (ms : List Component) → AllByRecursion (λ x. IsFor p xs (f x (given_measure g others x)) (given_measure g others x)) ms → AreFor p xs (for_measures f ms (map (given_measure g others) ms)) (map (given_measure g others) ms)
    each [] h = tt
    each (m ∷ ms) h = (h.0.0, h.0.1, each ms h.1)

    one : (ms : List Component) → nat_eq (length ms) 1 ≡ true → AllByRecursion (λ x. IsFor p xs (f x bool_var) bool_var) ms → AreFor p xs (for_measures f ms (bool_var ∷ [])) (bool_var ∷ [])
    one [] e h = cc
    one (m ∷ []) e h = (h.0.0, h.0.1, tt)
    one (m ∷ n ∷ ms) e h = let two : length (m ∷ n ∷ ms) ≡ 1 = eqb-true (length (m ∷ n ∷ ms)) 1 e in absurd (omega arith)

    go : (o : Outcome) → IsGivenBy o op → is_miscounted o (length (measures us)) ≡ false → AllByRecursion (λ x. IsFor p xs (f x (given_of o g others x)) (given_of o g others x)) (measures us) → AreFor p xs (for_measures f (measures us) (given_measures o g others us)) (given_measures o g others us)
    go outcome.Each by counted all = each (measures us) all
    go outcome.Truth by counted all = one (measures us) (not-false (nat_eq (length (measures us)) 1) counted) all
    go outcome.All by counted all = absurd by
    go outcome.Count by counted all = absurd by

pub given-roles : (o : Outcome) (g : GivesKind) (others : Option (List Component)) (us : List Component) → AllByRecursion (λ x. x.role ≡ role.Measure) (given_measures o g others us)
given-roles outcome.Each g others us = lists.mapped (λ x. x.role ≡ role.Measure) (given_measure g others) (measures us) (lists.every (λ x. role.Measure ≡ role.Measure) (measures us) (λ x. refl))
given-roles outcome.All g others us = lists.mapped (λ x. x.role ≡ role.Measure) (given_measure g others) (measures us) (lists.every (λ x. role.Measure ≡ role.Measure) (measures us) (λ x. refl))
given-roles outcome.Truth g others us = (refl, tt)
given-roles outcome.Count g others us = (refl, tt)

-- the measures that are met
pub met-measures : (g : GivesKind) (others : Option (List Component)) (us : List Component) → any_unmet g others us ≡ false → AllByRecursion (λ x. is_none (paired g x.kind (namesake others x)) ≡ false) (measures us)
met-measures g others us e =
    lists.weaker (λ x. (is_unmet g others x ≡ false) × (is_measure x ≡ true)) (λ x. is_none (paired g x.kind (namesake others x)) ≡ false) (measures us) one
    (all_kept (λ x. is_unmet g others x ≡ false) is_measure us (none_same (is_unmet g others) us e))
  where
    one : (x : Component) → (is_unmet g others x ≡ false) × (is_measure x ≡ true) → is_none (paired g x.kind (namesake others x)) ≡ false
    one x h = sym (ap (λ b. b && is_none (paired g x.kind (namesake others x))) h.1) ∙ h.0

-- ---- a structure of identifiers and measures
pub for-parts : (p : Settings) (xs ids ms : List Component) (X : List Component) (f : Component → Component → CompExp) (us : List Component)
    → AreParts ids ms → AllByRecursion (λ y. IsFor p xs (column_named X y.name) y) ids → AreFor p xs (for_measures f us ms) ms
    → AreFor p xs (columns_named X (identifiers_of (structure_of (ids ++ ms))) ++ for_measures f us (measures_of (structure_of (ids ++ ms)))) (columns_of (structure_of (ids ++ ms)))
for-parts p xs ids ms X f us are fits rest =
    subst (λ l. AreFor p xs (columns_named X (identifiers_of s) ++ for_measures f us (measures_of s)) l) (sym (parts-columns ids ms are))
    (subst (λ l. AreFor p xs (columns_named X l ++ for_measures f us (measures_of s)) (ids ++ ms)) (sym (parts-identifiers ids ms are))
    (subst (λ l. AreFor p xs (columns_named X ids ++ for_measures f us l) (ids ++ ms)) (sym (parts-measures ids ms are))
    (for-append p xs (columns_named X ids) (for_measures f us ms) ids ms (for-map p xs (λ y. column_named X y.name) ids fits) rest)))
  where
    s : Structure
    s = structure_of (ids ++ ms)

pub has-identifiers : (ids ms : List Component) (xs : List Component) → AreParts ids ms → names_of ids ≡ names_of xs → map (λ x. x.kind) ids ≡ map (λ x. x.kind) xs → HasIdentifiers (structure_of (ids ++ ms)) xs
has-identifiers ids ms xs are names kinds = (ap names_of (parts-identifiers ids ms are) ∙ names, ap (map (λ x. x.kind)) (parts-identifiers ids ms are) ∙ kinds)

-- the columns of some of the components
pub found-columns : (p : Settings) (a : Structure) → IsShaped a → AllByRecursion (λ y. IsFor p (columns_of a) (column_named (columns_of a) y.name) y) a.components
found-columns p a is = lists.weaker (IsFound (columns_of a)) (λ y. IsFor p (columns_of a) (column_named (columns_of a) y.name) y) a.components (λ y e. named-for p (columns_of a) y.name y e) (in-columns a is.well_formed)

-- ---- on one operand
abbrev pub between : MeasureTree → Kind → List Kind
between m x = map exp_kind m.before ++ x ∷ map exp_kind m.after

pub measured-fits : (p : Settings) (m : MeasureTree) (a : Structure) (o : Outcome) (literals : Bool)
    → IsShaped a → IsGivenBy o m.op → o ≡ outcome_of m.op → (literals ≡ true → (e : CompExp) → HasLiterals m.op (comp_exps_of (m.before ++ e ∷ m.after))) → AllByRecursion (IsTyped p (columns_of a)) m.before → AllByRecursion (IsTyped p (columns_of a)) m.after
    → Gives (λ s. IsShaped s × IsMeasured p m a s) (measured_form o (given_between m) literals choice.Except [] a.components)
measured-fits p m a o literals is by same fit before after =
    tested-then Q (measured_tests o g literals a.components) (λ u. shaped (chosen choice.Except [] a.components ++ ms))
    (λ passed. subst (λ ids. Gives Q (shaped (ids ++ ms))) (sym (all_identify a.components))
    (shaped-gives Q (ids ++ ms) (λ s. (
      s,
      record {
        well_formed = s.well_formed;
        identifiers = has-identifiers ids ms ids are refl refl;
        columns = for-parts p (columns_of a) ids ms (columns_of a) f (measures a.components) are (AllByRecursion-filter (λ y. IsFor p (columns_of a) (column_named (columns_of a) y.name) y) is_identifier a.components (found-columns p a is))
            (for-given p (columns_of a) o m.op g None f a.components by passed.1.1.0 (lists.joined (λ x. is_none (paired g x.kind (namesake None x)) ≡ false) (IsFound (columns_of a)) Good (measures a.components) (good (fit (not-false literals passed.1.0))) (met-measures g None a.components passed.0) (AllByRecursion-filter (IsFound (columns_of a)) is_measure a.components (in-columns a is.well_formed))));
        counted = subst (λ oc. is_miscounted oc (length (measures a.components)) ≡ false) same passed.1.1.0;
        shape = ap (λ oc. ids ++ given_measures oc g None a.components) same;
      },
    ))))
  where
    Q : Structure → Type 0
    Q s = IsShaped s × IsMeasured p m a s

    g : GivesKind
    g = given_between m

    ids : List Component
    ids = filter is_identifier a.components

    ms : List Component
    ms = given_measures o g None a.components

    are : AreParts ids ms
    are = record { identifiers = identifier-roles a.components; measures = given-roles o g None a.components }

    f : Component → Component → CompExp
    f = with_measure m (columns_of a)

    Good : Component → Type 0
    Good x = IsFor p (columns_of a) (f x (given_of o g None x)) (given_of o g None x)

    good : ((e : CompExp) → HasLiterals m.op (comp_exps_of (m.before ++ e ∷ m.after))) → (x : Component) → is_none (paired g x.kind (namesake None x)) ≡ false → IsFound (columns_of a) x → Good x
    good literal x met found = (call-typed p (columns_of a) m.op (given_of o g None x).kind (m.before ++ column_named (columns_of a) x.name ∷ m.after) kinds typed (literal (column_named (columns_of a) x.name)), refl)
      where
        named : IsFor p (columns_of a) (column_named (columns_of a) x.name) x
        named = named-for p (columns_of a) x.name x found

        kinds : kinds_of m.op (map exp_kind (m.before ++ column_named (columns_of a) x.name ∷ m.after)) ≡ Some (given_of o g None x).kind
        kinds =
            ap (kinds_of m.op) (map-append exp_kind m.before (column_named (columns_of a) x.name ∷ m.after) ∙ ap (λ kind. map exp_kind m.before ++ kind ∷ map exp_kind m.after) named.1)
            ∙ given-kind o m.op g None x (between m x.kind) by refl met

        typed : AllByRecursion (IsTyped p (columns_of a)) (m.before ++ column_named (columns_of a) x.name ∷ m.after)
        typed = all_append (IsTyped p (columns_of a)) m.before (column_named (columns_of a) x.name ∷ m.after) before (named.0, after)
