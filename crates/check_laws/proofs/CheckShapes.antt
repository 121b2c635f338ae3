-- The structures of checks by rules, of `check` and of hierarchies.
use Rattle.std.proofs.Common.{◌≡◌, ℕ, Bool, true, false, not, cond, List, [], ◌∷◌, ◌++◌, length, map, Option, Some, None, refl, sym, ap, ◌∙◌, subst, true≢false, append_assoc, arith}
use Rattle.std.proofs.lemmas.Bool.{eqb-true, false≢true, and_parts, not-false, or_parts}
use Rattle.std.proofs.lemmas.List.{map-append, map-id}
use Rattle.std.specs.List.{AllByRecursion, list_all}
use Rattle.std.specs.Option.{IfSome, option_to_list}
use Rattle.std.specs.Prelude.{nat_eq}
use Rattle.vtl_decimal.specs.Settings.{Settings}
use Rattle.vtl_lists.specs.Apart.{all_apart}
use Rattle.vtl_lists.proofs.Sorts.{AllByRecursion-filter}
use Rattle.vtl_lists.proofs.Alls.{all_append, all_from_test}
use Rattle.vtl_cell.specs.Kinds.{same_kind}
use Rattle.vtl_cell.specs.Profile.{IsOfProfile}
use Rattle.vtl_cell.specs.ScalarKinds.{meets}
use Rattle.vtl_cell.specs.declared.cell.Cell.TheVariants as c
use Rattle.vtl_cell.specs.declared.kind.Kind.{Kind}
use Rattle.vtl_cell.specs.declared.kind.Kind.TheVariants as k
use Rattle.vtl_syntax.specs.declared.word_groups.CheckOut.{CheckOut}
use Rattle.vtl_syntax.specs.declared.word_groups.CheckOut.TheVariants as out
use Rattle.vtl_tree.specs.ClauseShapes.{first_kind}
use Rattle.vtl_tree.specs.Checks.{error_measures, output_parts, ruled_measures, ruleid, sided_measures, uncoded, without_codes}
use Rattle.vtl_tree.specs.Choices.{is_identifier}
use Rattle.vtl_tree.specs.Columns.{identifiers_of, measures_of, others_of, place_of}
use Rattle.vtl_tree.specs.Measures.{bool_var, is_measure, measures}
use Rattle.vtl_tree.specs.Names.{component_of}
use Rattle.vtl_tree.specs.Operands.{agree, agreed_identifiers, all_agree, all_meet, has_one_measure}
use Rattle.vtl_tree.specs.Pairs.{check_measures, imbalance}
use Rattle.vtl_tree.specs.RuleItems.{definitions, left_item}
use Rattle.vtl_tree.specs.Structure.{columns_of, names_of, same_name}
use Rattle.vtl_tree.specs.Structures.{is_null_kind, structure_of}
use Rattle.vtl_tree.specs.Trees.{PointRuleTree}
use Rattle.vtl_tree.specs.declared.operands.Compared.TheVariants as compared
use Rattle.vtl_tree.specs.declared.rules.HierRules.{HierRules}
use Rattle.vtl_tree.specs.declared.specifications.CheckSpec.{CheckSpec}
use Rattle.vtl_tree.specs.declared.structure.Component.{Component}
use Rattle.vtl_tree.specs.declared.structure.Role.TheVariants as role
use Rattle.vtl_tree.specs.declared.structure.Structure.{Structure}
use Rattle.check_faults.specs.declared.rules.Rule.TheVariants as rule
use Rattle.check_rules.specs.Calls.{hierarchy_checked, hierarchy_made, is_of_items, itemized, itemized_by, point_checked}
use Rattle.check_shapes.specs.Pairs.{check_form, check_tests, has_one_number}
use Rattle.check_shapes.specs.Shape.{shaped}
use Rattle.vtl_meaning.specs.Made.{AreAmong, HasIdentifiers, IsColumnAt, component_kinds}
use Rattle.vtl_meaning.specs.Shapes.{IsShaped}
use Rattle.vtl_rulings.specs.HierarchyChecks.{Ruled, only_name, ruled_by, sided_rules}
use Rattle.vtl_rulings.specs.HierarchyShapes.{IsHierarchyChecked, IsHierarchyMade, IsItemized, IsNumeric}
use Rattle.vtl_rulings.specs.PointChecks.{point_rules}
use Rattle.vtl_rulings.specs.Shaped.{IsChecked, IsImbalance, IsPointChecked, IsPointRuleOver}
use Rattle.check_laws.specs.Gives.{ArePassed, Gives}
use Rattle.vtl_meaning.proofs.FoundColumns.{at-place, found-filter}
use Rattle.vtl_meaning.proofs.Lists as lists
use Rattle.check_laws.proofs.Among.{among-mapped, mapped-among, own-identifiers, own-measures, same-identifiers}
use Rattle.check_laws.proofs.Measured.{has-identifiers}
use Rattle.check_laws.proofs.Shapes.{AreParts, identifier-roles, measure-roles, parts-columns, parts-identifiers, parts-measures, parts-others, shaped-gives}
use Rattle.check_laws.proofs.Steps.{tested, tested-then, then}
use Rattle.check_laws.proofs.Twins.{agreed-kinds, agreed-names, agreed-roles, maps-same}

-- ---- one measure alone
pub record IsOnly (kind : Kind) (ms : List Component) : Type 0 where
  pub measure : Component
  pub only : ms ≡ measure ∷ []
  pub met : meets kind measure.kind ≡ true
  pub known : is_null_kind measure.kind ≡ false

single : (kind : Kind) (ms : List Component) → nat_eq (length ms) 1 ≡ true → AllByRecursion (λ x. meets kind x.kind ≡ true) ms → AllByRecursion (λ x. is_null_kind x.kind ≡ false) ms → IsOnly kind ms
single kind [] e h n = cc
single kind (x ∷ []) e h n = record { measure = x; only = refl; met = h.0; known = n.0 }
single kind (x ∷ y ∷ ms) e h n = let two : length (x ∷ y ∷ ms) ≡ 1 = eqb-true (length (x ∷ y ∷ ms)) 1 e in absurd (omega arith)

meet-all : (kind : Kind) (xs : List Component) → all_meet kind xs ≡ true → AllByRecursion (λ x. meets kind x.kind ≡ true) (measures xs)
unfolding all_meet
meet-all kind xs e = all_from_test (λ x. meets kind x.kind) (measures xs) e

-- so many measures, each of which meets the kind
pub only-measure : (kind : Kind) (a : Structure) → IsShaped a → nat_eq (length (measures a.components)) 1 ≡ true → all_meet kind a.components ≡ true → IsOnly kind (measures_of a)
only-measure kind a ia one met = single kind (measures a.components) one (meet-all kind a.components met) (AllByRecursion-filter (λ x. is_null_kind x.kind ≡ false) is_measure a.components ia.kinds)

one-measure : (kind : Kind) (a : Structure) → IsShaped a → has_one_measure kind a.components ≡ true → IsOnly kind (measures_of a)
one-measure kind a ia e = let both = and_parts (nat_eq (length (measures a.components)) 1) (all_meet kind a.components) e in only-measure kind a ia both.0 both.1

only-kind : (kind : Kind) (ms : List Component) → (o : IsOnly kind ms) → component_kinds ms ≡ o.measure.kind ∷ []
only-kind kind ms o = ap component_kinds o.only

pub boolean-kind : (ms : List Component) → IsOnly k.Bool ms → component_kinds ms ≡ k.Bool ∷ []
boolean-kind ms o = only-kind k.Bool ms o ∙ ap (λ kind. kind ∷ []) (boolean o.measure.kind o.met o.known)
  where
    boolean : (kind : Kind) → meets k.Bool kind ≡ true → is_null_kind kind ≡ false → kind ≡ k.Bool
    boolean k.Bool e n = refl
    boolean k.Null e n = absurd (true≢false n)
    boolean kind e n = absurd (false≢true e)

numeric-kind : (kind : Kind) → meets k.Num kind ≡ true → is_null_kind kind ≡ false → IsNumeric kind
numeric-kind k.Int e n = tt
numeric-kind k.Num e n = tt
numeric-kind k.Null e n = absurd (true≢false n)
numeric-kind kind e n = absurd (false≢true e)

-- ---- behind the identifiers of a point the one of a rule
abbrev AreMeasures : List Component → Type 0
AreMeasures ms = AllByRecursion (λ x. x.role ≡ role.Measure) ms

output-measures : (o : CheckOut) (a : Structure) (rest : List Component) → AreMeasures rest → AreMeasures (output_parts o (measures_of a) bool_var rest)
output-measures out.Invalid a rest h = all_append (λ x. x.role ≡ role.Measure) (measures_of a) rest (measure-roles a.components) h
output-measures out.All a rest h = (refl, h)
output-measures out.AllMeasures a rest h = all_append (λ x. x.role ≡ role.Measure) (measures_of a) (bool_var ∷ rest) (measure-roles a.components) (refl, h)

record IsRuledShape (a : Structure) (ms : List Component) (s : Structure) : Type 0 where
  pub identifiers : HasIdentifiers s (identifiers_of a ++ ruleid ∷ [])
  pub others : component_kinds (others_of s) ≡ component_kinds ms

-- identifiers that keep their names, their kinds and their role
module _ (a : Structure) (f : Component → Component) (name-stays : (x : Component) → (f x).name ≡ x.name) (kind-stays : (x : Component) → (f x).kind ≡ x.kind) (role-stays : (x : Component) → (f x).role ≡ x.role) where
  abbrev kept-ids : List Component
  kept-ids = map f (identifiers_of a)

  kept-names : names_of kept-ids ≡ names_of (identifiers_of a)
  kept-names = maps-same f (λ x. x.name) (identifiers_of a) name-stays

  kept-kinds : map (λ x. x.kind) kept-ids ≡ map (λ x. x.kind) (identifiers_of a)
  kept-kinds = maps-same f (λ x. x.kind) (identifiers_of a) kind-stays

  kept-roles : AllByRecursion (λ x. x.role ≡ role.Identifier) kept-ids
  kept-roles = lists.mapped (λ x. x.role ≡ role.Identifier) f (identifiers_of a) (lists.weaker (λ x. x.role ≡ role.Identifier) (λ x. (f x).role ≡ role.Identifier) (identifiers_of a) (λ x e. role-stays x ∙ e) (identifier-roles a.components))

  kept-shape : (ms : List Component) → AreMeasures ms → IsRuledShape a ms (structure_of (kept-ids ++ ruleid ∷ ms))
  kept-shape ms h =
      subst (λ l. IsRuledShape a ms (structure_of l)) (append_assoc kept-ids (ruleid ∷ []) ms)
      (record { identifiers = has-identifiers ids ms (identifiers_of a ++ ruleid ∷ []) are names kinds; others = ap component_kinds (parts-others ids ms are) })
    where
      ids : List Component
      ids = kept-ids ++ ruleid ∷ []

      are : AreParts ids ms
      are = record { identifiers = all_append (λ x. x.role ≡ role.Identifier) kept-ids (ruleid ∷ []) kept-roles (refl, tt); measures = h }

      names : names_of ids ≡ names_of (identifiers_of a ++ ruleid ∷ [])
      names = map-append (λ x. x.name) kept-ids (ruleid ∷ []) ∙ ap (λ l. l ++ ruleid.name ∷ []) kept-names ∙ sym (map-append (λ x. x.name) (identifiers_of a) (ruleid ∷ []))

      kinds : map (λ x. x.kind) ids ≡ map (λ x. x.kind) (identifiers_of a ++ ruleid ∷ [])
      kinds = map-append (λ x. x.kind) kept-ids (ruleid ∷ []) ∙ ap (λ l. l ++ ruleid.kind ∷ []) kept-kinds ∙ sym (map-append (λ x. x.kind) (identifiers_of a) (ruleid ∷ []))

ruled-shape : (a : Structure) (ms : List Component) → AreMeasures ms → IsRuledShape a ms (structure_of (identifiers_of a ++ ruleid ∷ ms))
ruled-shape a ms h = subst (λ l. IsRuledShape a ms (structure_of (l ++ ruleid ∷ ms))) (map-id (identifiers_of a)) (kept-shape a (λ x. x) (λ x. refl) (λ x. refl) (λ x. refl) ms h)

-- ---- `check_datapoint`
pub point-fits : (p : Settings) (o : CheckOut) (rules : List PointRuleTree) (a : Structure) → AllByRecursion (IsPointRuleOver p (columns_of a)) rules → all_apart (λ x y. same_name x.0 y.0) (point_rules rules) ≡ true → Gives (λ s. IsShaped s × IsPointChecked p o rules a s) (point_checked o a)
point-fits p o rules a typed apart =
    shaped-gives (λ s. IsShaped s × IsPointChecked p o rules a s) (identifiers_of a ++ ruleid ∷ ruled_measures o a)
    (λ s. (s, record { well_formed = s.well_formed; identifiers = fits.identifiers; others = fits.others; typed = typed; apart = apart; shape = refl }))
  where
    fits : IsRuledShape a (ruled_measures o a) (structure_of (identifiers_of a ++ ruleid ∷ ruled_measures o a))
    fits = ruled-shape a (ruled_measures o a) (output-measures o a error_measures (refl, (refl, tt)))

-- ---- hierarchies
uncoded-name : (n : List ℕ) (x : Component) → (uncoded n x).name ≡ x.name
uncoded-name n x = go (same_name x.name n)
  where
    go : (b : Bool) → (cond b (record x { codes = None }) x).name ≡ x.name
    go true = refl
    go false = refl

uncoded-kind : (n : List ℕ) (x : Component) → (uncoded n x).kind ≡ x.kind
uncoded-kind n x = go (same_name x.name n)
  where
    go : (b : Bool) → (cond b (record x { codes = None }) x).kind ≡ x.kind
    go true = refl
    go false = refl

uncoded-role : (n : List ℕ) (x : Component) → (uncoded n x).role ≡ x.role
uncoded-role n x = go (same_name x.name n)
  where
    go : (b : Bool) → (cond b (record x { codes = None }) x).role ≡ x.role
    go true = refl
    go false = refl

text-kind : (kind : Kind) → same_kind kind k.Text ≡ true → kind ≡ k.Text
text-kind k.Text e = refl
text-kind kind e = absurd (false≢true e)

itemized-gives : (rules : HierRules) (a : Structure) → IsShaped a → Gives (λ u. IsItemized (ruled_by rules a) a) (itemized rules.variable a)
itemized-gives rules a ia = go (component_of rules.variable a.components) refl
  where
    items : (x : Component) → component_of rules.variable a.components ≡ Some x → is_of_items x ≡ true → IsColumnAt (place_of rules.variable (identifiers_of a)) rules.variable k.Text (identifiers_of a)
    items x e is =
        let both = and_parts (is_identifier x) (same_kind x.kind k.Text) is in
        subst (λ kind. IsColumnAt (place_of rules.variable (identifiers_of a)) rules.variable kind (identifiers_of a)) (text-kind x.kind both.1)
        (at-place rules.variable (identifiers_of a) x (found-filter is_identifier rules.variable a.components x e both.0))

    of-measures : List Component → Ruled
    of-measures ms = record { id = rules.variable; measure = only_name ms; kind = first_kind ms }

    go : (o : Option Component) → component_of rules.variable a.components ≡ o → Gives (λ u. IsItemized (ruled_by rules a) a) (itemized_by o a)
    go None e = tt
    go (Some x) e = tested (λ u. IsItemized (ruled_by rules a) a) ((rule.WrongRole, not (is_of_items x)) ∷ (rule.MeasuresDisagree, not (has_one_measure k.Num a.components)) ∷ []) tt fits
      where
        fits : ArePassed ((rule.WrongRole, not (is_of_items x)) ∷ (rule.MeasuresDisagree, not (has_one_measure k.Num a.components)) ∷ []) → IsItemized (ruled_by rules a) a
        fits passed =
            let only = one-measure k.Num a ia (not-false (has_one_measure k.Num a.components) passed.1.0) in
            subst (λ h. IsItemized h a) (sym (ap of-measures only.only))
            (record {
              coded = items x e (not-false (is_of_items x) passed.0);
              measured = (subst (λ ms. AreAmong ms (columns_of a)) only.only (own-measures a ia)).0;
              only = only-kind k.Num (measures_of a) only;
              numeric = numeric-kind only.measure.kind only.met only.known;
            })

pub hierarchy-checked-fits : (o : CheckOut) (rules : HierRules) (a : Structure) → IsShaped a → all_apart (λ x y. same_name x.0 y.0) (sided_rules rules.rules) ≡ true → Gives (λ s. IsShaped s × IsHierarchyChecked o (ruled_by rules a) rules.rules a s) (hierarchy_checked o rules.variable a)
hierarchy-checked-fits o rules a ia apart =
    then (λ u. IsItemized (ruled_by rules a) a) Q (itemized rules.variable a) (λ u. shaped (ids ++ ruleid ∷ sided_measures o a)) (itemized-gives rules a ia)
    (λ u itemized. shaped-gives Q (ids ++ ruleid ∷ sided_measures o a) (λ s. (s, record { well_formed = s.well_formed; identifiers = fits.identifiers; others = fits.others; itemized = itemized; apart = apart; shape = refl })))
  where
    Q : Structure → Type 0
    Q s = IsShaped s × IsHierarchyChecked o (ruled_by rules a) rules.rules a s

    ids : List Component
    ids = without_codes rules.variable (identifiers_of a)

    fits : IsRuledShape a (sided_measures o a) (structure_of (ids ++ ruleid ∷ sided_measures o a))
    fits = kept-shape a (uncoded rules.variable) (uncoded-name rules.variable) (uncoded-kind rules.variable) (uncoded-role rules.variable) (sided_measures o a) (output-measures o a (imbalance ∷ error_measures) (refl, (refl, (refl, tt))))

pub hierarchy-made-fits : (rules : HierRules) (a : Structure) → IsShaped a → all_apart (λ q r. same_name (left_item q) (left_item r)) (definitions rules.rules) ≡ true → Gives (λ s. IsShaped s × IsHierarchyMade (ruled_by rules a) rules.rules a s) (hierarchy_made rules.variable a)
hierarchy-made-fits rules a ia apart =
    then (λ u. IsItemized (ruled_by rules a) a) Q (itemized rules.variable a) (λ u. shaped (ids ++ ms)) (itemized-gives rules a ia) (λ u itemized. shaped-gives Q (ids ++ ms) (λ s. (s, fits itemized s)))
  where
    Q : Structure → Type 0
    Q s = IsShaped s × IsHierarchyMade (ruled_by rules a) rules.rules a s

    f : Component → Component
    f = uncoded rules.variable

    ids : List Component
    ids = without_codes rules.variable (identifiers_of a)

    ms : List Component
    ms = measures_of a

    result : Structure
    result = structure_of (ids ++ ms)

    are : AreParts ids ms
    are = record { identifiers = kept-roles a f (uncoded-name rules.variable) (uncoded-kind rules.variable) (uncoded-role rules.variable); measures = measure-roles a.components }

    fits : IsItemized (ruled_by rules a) a → IsShaped result → IsHierarchyMade (ruled_by rules a) rules.rules a result
    fits itemized s = record {
      well_formed = s.well_formed;
      identifiers = has-identifiers ids ms (identifiers_of a) are (maps-same f (λ x. x.name) (identifiers_of a) (uncoded-name rules.variable)) (maps-same f (λ x. x.kind) (identifiers_of a) (uncoded-kind rules.variable));
      others = ap component_kinds (parts-others ids ms are) ∙ itemized.only;
      no_attributes = parts-columns ids ms are ∙ ap (λ l. l ++ ms) (sym (parts-identifiers ids ms are)) ∙ ap (λ l. identifiers_of result ++ l) (sym (parts-measures ids ms are));
      operand = record {
        there = subst (AreAmong (identifiers_of a)) (sym (parts-identifiers ids ms are)) (among-mapped f (uncoded-name rules.variable) (uncoded-kind rules.variable) (identifiers_of a) (identifiers_of a) (own-identifiers a ia));
        back = subst (λ l. AreAmong l (identifiers_of a)) (sym (parts-identifiers ids ms are)) (mapped-among f (uncoded-name rules.variable) (uncoded-kind rules.variable) (identifiers_of a) (identifiers_of a) (own-identifiers a ia));
        measures = subst (λ l. AreAmong l (columns_of a)) (sym (parts-measures ids ms are)) (own-measures a ia);
      };
      itemized = itemized;
      apart = apart;
      shape = refl;
    }

-- ---- `check`
pub check-fits : (p : Settings) (spec : CheckSpec) (i : Option Structure) (a : Structure) → IsShaped a → IfSome i IsShaped → IfSome spec.errorlevel (λ n. IsOfProfile p (c.Int n)) → Gives (λ s. IsShaped s × IsChecked p spec i a s) (check_form a (option_to_list i))
check-fits p spec i a ia ii level = tested-then Q (check_tests a (option_to_list i)) (λ u. shaped (ids ++ check_measures)) (λ passed. shaped-gives Q (ids ++ check_measures) (λ s. (s, fits passed s)))
  where
    Q : Structure → Type 0
    Q s = IsShaped s × IsChecked p spec i a s

    ids : List Component
    ids = agreed_identifiers (option_to_list i) a.components

    are : AreParts ids check_measures
    are = record { identifiers = agreed-roles (option_to_list i) a.components; measures = (refl, (refl, (refl, (refl, tt)))) }

    imbalance-fits : (i : Option Structure) → IfSome i IsShaped → all_agree compared.Kinds role.Identifier a.components (option_to_list i) ≡ true → list_all has_one_number (option_to_list i) ≡ true → IfSome i (IsImbalance a)
    imbalance-fits None ii e n = tt
    imbalance-fits (Some d) ii e n =
        let both = same-identifiers a d (all_from_test (λ s. agree compared.Kinds role.Identifier a.components s.components) (d ∷ []) e).0 in
        let only = one-measure k.Num d ii (all_from_test has_one_number (d ∷ []) n).0 in
        record { there = both.0; back = both.1; kind = only.measure.kind; measured = only-kind k.Num (measures_of d) only; numeric = only.met }

    fits : ArePassed (check_tests a (option_to_list i)) → IsShaped (structure_of (ids ++ check_measures)) → IsChecked p spec i a (structure_of (ids ++ check_measures))
    fits passed s =
        let tests = or_parts (not (has_one_measure k.Bool a.components)) (not (list_all has_one_number (option_to_list i))) passed.1.0 in
        record {
          well_formed = s.well_formed;
          identifiers = has-identifiers ids check_measures (identifiers_of a) are (agreed-names (option_to_list i) a.components) (agreed-kinds (option_to_list i) a.components);
          others = ap component_kinds (parts-others ids check_measures are);
          measured = boolean-kind (measures_of a) (one-measure k.Bool a ia (not-false (has_one_measure k.Bool a.components) tests.0));
          fits = imbalance-fits i ii (not-false (all_agree compared.Kinds role.Identifier a.components (option_to_list i)) passed.0) (not-false (list_all has_one_number (option_to_list i)) tests.1);
          level = level;
          shape = refl;
        }
