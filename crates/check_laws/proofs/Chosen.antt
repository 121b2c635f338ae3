-- `if` on data sets.
use Rattle.std.proofs.Common.{◌≡◌, true, ◌&&◌, not, List, [], ◌∷◌, ◌++◌, length, refl, sym, ap, ◌∙◌, subst}
use Rattle.std.specs.Prelude.{nat_eq}
use Rattle.std.proofs.lemmas.Bool.{and_parts, not-false}
use Rattle.vtl_lists.proofs.Alls.{all_from_test}
use Rattle.vtl_cell.specs.declared.kind.Kind.TheVariants as k
use Rattle.vtl_tree.specs.Structure.{columns_of}
use Rattle.vtl_tree.specs.Structures.{structure_of}
use Rattle.vtl_tree.specs.declared.structure.Component.{Component}
use Rattle.vtl_tree.specs.declared.structure.Role.TheVariants as role
use Rattle.vtl_tree.specs.declared.structure.Structure.{Structure}
use Rattle.vtl_tree.specs.Measures.{measures}
use Rattle.vtl_tree.specs.Operands.{agree, agreed_identifiers, all_agree, all_meet}
use Rattle.check_shapes.specs.Pairs.{are_choices, if_form, if_tests}
use Rattle.check_shapes.specs.Shape.{shaped}
use Rattle.vtl_tree.specs.declared.operands.Compared.TheVariants as compared
use Rattle.vtl_tree.specs.Columns.{identifiers_of, measures_of}
use Rattle.vtl_meaning.specs.Made.{AreAmong, IsAlternative, IsChoice}
use Rattle.vtl_meaning.specs.Shapes.{IsShaped}
use Rattle.check_laws.specs.Gives.{ArePassed, Gives}
use Rattle.check_laws.proofs.Among.{own-measures, same-identifiers, same-measures}
use Rattle.check_laws.proofs.CheckShapes.{boolean-kind, only-measure}
use Rattle.check_laws.proofs.Measured.{has-identifiers}
use Rattle.check_laws.proofs.Shapes.{AreParts, measure-roles, parts-columns, parts-identifiers, parts-measures, shaped-gives}
use Rattle.check_laws.proofs.Steps.{tested-then}
use Rattle.check_laws.proofs.Twins.{agreed-kinds, agreed-names, agreed-roles}

pub chosen-fits : (t a b : Structure) → IsShaped t → IsShaped a → IsShaped b → Gives (λ s. IsShaped s × IsChoice t a b s) (if_form t a b)
chosen-fits t a b it ia ib =
    tested-then Q (if_tests t a b) (λ u. shaped (ids ++ ms)) (λ passed. shaped-gives Q (ids ++ ms) (λ s. (s, fits passed s)))
  where
    Q : Structure → Type 0
    Q s = IsShaped s × IsChoice t a b s

    ids : List Component
    ids = agreed_identifiers (a ∷ b ∷ []) t.components

    ms : List Component
    ms = measures a.components

    are : AreParts ids ms
    are = record { identifiers = agreed-roles (a ∷ b ∷ []) t.components; measures = measure-roles a.components }

    alternative : (x : Structure) → agree compared.Kinds role.Identifier t.components x.components ≡ true → AreAmong ms (columns_of x) → IsAlternative t x (structure_of (ids ++ ms))
    alternative x e own = let both = same-identifiers t x e in record { there = both.0; back = both.1; measures = subst (λ l. AreAmong l (columns_of x)) (sym (parts-measures ids ms are)) own }

    fits : ArePassed (if_tests t a b) → IsShaped (structure_of (ids ++ ms)) → IsChoice t a b (structure_of (ids ++ ms))
    fits passed s =
        let one = and_parts (nat_eq (length (measures t.components)) 1 && not (nat_eq (length (measures a.components)) 0)) (agree compared.Kinds role.Measure a.components b.components) (not-false (are_choices t a b) passed.1.1.0) in
        let single = and_parts (nat_eq (length (measures t.components)) 1) (not (nat_eq (length (measures a.components)) 0)) one.0 in
        let agreed = all_from_test (λ x. agree compared.Kinds role.Identifier t.components x.components) (a ∷ b ∷ []) (not-false (all_agree compared.Kinds role.Identifier t.components (a ∷ b ∷ [])) passed.1.0) in
        record {
          well_formed = s.well_formed;
          tested = boolean-kind (measures_of t) (only-measure k.Bool t it single.0 (not-false (all_meet k.Bool t.components) passed.0));
          first = alternative a agreed.0 (own-measures a ia);
          second = alternative b agreed.1.0 (same-measures a b ib one.1);
          identifiers = has-identifiers ids ms (identifiers_of t) are (agreed-names (a ∷ b ∷ []) t.components) (agreed-kinds (a ∷ b ∷ []) t.components);
          alike = one.1;
          shape = refl;
          no_attributes = parts-columns ids ms are ∙ ap (λ l. l ++ ms) (sym (parts-identifiers ids ms are)) ∙ ap (λ l. identifiers_of (structure_of (ids ++ ms)) ++ l) (sym (parts-measures ids ms are));
        }
