-- `pivot` and `unpivot`.
use Rattle.std.proofs.Common.{◌≡◌, ℕ, true, not, List, [], ◌∷◌, ◌++◌, length, map, Option, Some, None, refl, sym, ap, ◌∙◌, subst, append_assoc}
use Rattle.std.specs.List.{list_all}
use Rattle.std.specs.Option.{option_and_then, option_map_or}
use Rattle.std.specs.Prelude.{nat_eq}
use Rattle.std.proofs.lemmas.Bool.{not-false, or_parts}
use Rattle.vtl_cell.specs.Kinds.{same_kind}
use Rattle.vtl_lists.specs.Results.{◌>>=◌}
use Rattle.vtl_lists.proofs.Alls.{all_append, all_from_test}
use Rattle.vtl_cell.specs.declared.kind.Kind.{Kind}
use Rattle.vtl_tree.specs.Structure.{columns_of}
use Rattle.vtl_tree.specs.Structures.{structure_of}
use Rattle.vtl_tree.specs.declared.structure.Component.{Component}
use Rattle.vtl_tree.specs.declared.structure.Role.TheVariants as role
use Rattle.vtl_tree.specs.declared.structure.Structure.{Structure}
use Rattle.check_faults.specs.Rules.{ruled}
use Rattle.check_faults.specs.declared.rules.Rule.TheVariants as rule
use Rattle.vtl_tree.specs.Choices.{chosen, is_identifier}
use Rattle.vtl_tree.specs.ClauseShapes.{code_measure, first_kind, names_column, pivot_components}
use Rattle.check_shapes.specs.Clauses.{are_unlike, has_no_name, pivot_codes, pivot_form, unpivot_form}
use Rattle.vtl_tree.specs.Measures.{made, measures}
use Rattle.vtl_tree.specs.Names.{component_of}
use Rattle.check_shapes.specs.Names.{known}
use Rattle.check_shapes.specs.Shape.{shaped}
use Rattle.vtl_tree.specs.declared.choices.Choice.TheVariants as choice
use Rattle.vtl_tree.specs.declared.names.Wanted.TheVariants as wanted
use Rattle.vtl_tree.proofs.Twins.{kinds-same}
use Rattle.vtl_tree.specs.Columns.{identifiers_of, kind_named, place_of}
use Rattle.vtl_meaning.specs.Made.{IsColumnAt, IsPivoted, IsUnpivoted, component_kinds}
use Rattle.vtl_meaning.specs.Shapes.{IsShaped}
use Rattle.vtl_meaning.specs.Turned.{codes_of, other_identifiers}
use Rattle.check_laws.specs.Gives.{ArePassed, Gives}
use Rattle.vtl_meaning.proofs.FoundColumns.{at-place, found-filter, into-columns, kind-found}
use Rattle.check_laws.proofs.Left.{IsNamed, known-gives}
use Rattle.vtl_meaning.proofs.Lists as lists
use Rattle.vtl_timing.proofs.FlowsKept.{all_identify}
use Rattle.check_laws.proofs.Measured.{has-identifiers}
use Rattle.check_laws.proofs.Shapes.{AreParts, chosen-roles, identifier-roles, parts-others, shaped-gives}
use Rattle.check_laws.proofs.Steps.{tested-then, then}

-- a component that is found stands at its name with its kind
named-at : (name : List ℕ) (xs : List Component) (x : Component) → component_of name xs ≡ Some x → IsColumnAt (place_of name xs) name (kind_named name xs) xs
named-at name xs x e = subst (λ kind. IsColumnAt (place_of name xs) name kind xs) (sym (kind-found name xs x e)) (at-place name xs x e)

-- ---- `pivot`
-- the identifier that `pivot` asks for, with its codes
abbrev HasCodes : List ℕ → Structure → List (List ℕ) → Type 0
HasCodes id a texts = (x : Component) × IsNamed wanted.Identifier a.components id x × (x.codes ≡ Some texts)

codes-given : (id : List ℕ) (a : Structure) → Gives (HasCodes id a) (known wanted.Identifier a.components [] id >>= λ x. pivot_codes x.codes)
codes-given id a =
    then (IsNamed wanted.Identifier a.components id) (HasCodes id a) (known wanted.Identifier a.components [] id) (λ x. pivot_codes x.codes) (known-gives wanted.Identifier a.components [] id) (λ x named. go x named x.codes refl)
  where
    go : (x : Component) → IsNamed wanted.Identifier a.components id x → (codes : Option (List (List ℕ))) → x.codes ≡ codes → Gives (HasCodes id a) (pivot_codes codes)
    go x named None e = tt
    go x named (Some texts) e = (x, named, e)

codes-found : (id : List ℕ) (a : Structure) (texts : List (List ℕ)) → HasCodes id a texts → codes_of id a ≡ texts
codes-found id a texts h = ap (λ o. option_map_or (λ codes. codes) (option_and_then (λ x. x.codes) o) []) h.1.0 ∙ ap (λ codes. option_map_or (λ codes. codes) codes []) h.2

code-kinds : (kind : Kind) (texts : List (List ℕ)) → component_kinds (map (code_measure kind) texts) ≡ map (λ code. kind) texts
code-kinds kind [] = refl
code-kinds kind (text ∷ texts) = ap (λ l. kind ∷ l) (code-kinds kind texts)

pub pivot-fits : (id m : List ℕ) (a : Structure) → IsShaped a → Gives (λ s. IsShaped s × IsPivoted id m a s) (pivot_form id m a.components)
pivot-fits id m a ia =
    then (HasCodes id a) Q (known wanted.Identifier a.components [] id >>= λ x. pivot_codes x.codes) (λ texts. known wanted.Measure a.components [] m >>= λ y. ruled ((rule.RepeatedComponent, has_no_name texts) ∷ []) (tt {0}) >>= λ u. shaped (pivot_components id y.kind texts a.components)) (codes-given id a)
    (λ texts coded. then (IsNamed wanted.Measure a.components m) Q (known wanted.Measure a.components [] m) (λ y. ruled ((rule.RepeatedComponent, has_no_name texts) ∷ []) (tt {0}) >>= λ u. shaped (pivot_components id y.kind texts a.components)) (known-gives wanted.Measure a.components [] m)
    (λ y named. tested-then Q ((rule.RepeatedComponent, has_no_name texts) ∷ []) (λ u. shaped (pivot_components id y.kind texts a.components)) (λ passed. shaped-gives Q (pivot_components id y.kind texts a.components) (λ s. (s, fits texts coded y named s)))))
  where
    Q : Structure → Type 0
    Q s = IsShaped s × IsPivoted id m a s

    ids : List Component
    ids = other_identifiers id a

    fits : (texts : List (List ℕ)) → HasCodes id a texts → (y : Component) → IsNamed wanted.Measure a.components m y → IsShaped (structure_of (pivot_components id y.kind texts a.components)) → IsPivoted id m a (structure_of (pivot_components id y.kind texts a.components))
    fits texts coded y named s = record {
      well_formed = s.well_formed;
      identifiers = has-identifiers ids (map (code_measure y.kind) texts) ids are refl refl;
      coded = named-at id (identifiers_of a) coded.0 (found-filter is_identifier id a.components coded.0 coded.1.0 coded.1.1);
      measured = named-at m (columns_of a) y column;
      measures = ap component_kinds (parts-others ids (map (code_measure y.kind) texts) are) ∙ code-kinds y.kind texts ∙ ap (λ kind. map (λ code. kind) texts) (sym kind) ∙ ap (map (λ code. kind_named m (columns_of a))) (sym (codes-found id a texts coded));
      shape = ap (λ kind. pivot_components id kind texts a.components) (sym kind) ∙ ap (λ codes. pivot_components id (kind_named m (columns_of a)) codes a.components) (sym (codes-found id a texts coded));
    }
      where
        are : AreParts ids (map (code_measure y.kind) texts)
        are = record { identifiers = chosen-roles (id ∷ []) a.components; measures = lists.mapped (λ x. x.role ≡ role.Measure) (code_measure y.kind) texts (lists.every (λ text. role.Measure ≡ role.Measure) texts (λ text. refl)) }

        column : component_of m (columns_of a) ≡ Some y
        column = into-columns a ia.well_formed m y named.0

        kind : kind_named m (columns_of a) ≡ y.kind
        kind = kind-found m (columns_of a) y column

-- ---- `unpivot`
pub unpivot-fits : (id m : List ℕ) (a : Structure) → Gives (λ s. IsShaped s × IsUnpivoted id m a s) (unpivot_form id m a.components)
unpivot-fits id m a =
    tested-then Q ((rule.MeasuresDisagree, are_unlike ms) ∷ []) (λ u. shaped (chosen choice.Except [] a.components ++ names_column id ms ∷ value ∷ []))
    (λ passed. subst (λ l. Gives Q (shaped l)) (sym split) (shaped-gives Q (ids ++ value ∷ []) (λ s. (s, fits passed s))))
  where
    Q : Structure → Type 0
    Q s = IsShaped s × IsUnpivoted id m a s

    ms : List Component
    ms = measures a.components

    value : Component
    value = made m role.Measure (first_kind ms)

    ids : List Component
    ids = identifiers_of a ++ names_column id ms ∷ []

    split : chosen choice.Except [] a.components ++ names_column id ms ∷ value ∷ [] ≡ ids ++ value ∷ []
    split = ap (λ l. l ++ names_column id ms ∷ value ∷ []) (all_identify a.components) ∙ sym (append_assoc (identifiers_of a) (names_column id ms ∷ []) (value ∷ []))

    are : AreParts ids (value ∷ [])
    are = record { identifiers = all_append (λ x. x.role ≡ role.Identifier) (identifiers_of a) (names_column id ms ∷ []) (identifier-roles a.components) (refl, tt); measures = (refl, tt) }

    fits : ArePassed ((rule.MeasuresDisagree, are_unlike ms) ∷ []) → IsShaped (structure_of (ids ++ value ∷ [])) → IsUnpivoted id m a (structure_of (ids ++ value ∷ []))
    fits passed s = record {
      well_formed = s.well_formed;
      identifiers = has-identifiers ids (value ∷ []) ids are refl refl;
      measured = ap component_kinds (parts-others ids (value ∷ []) are);
      alike = lists.weaker (λ x. same_kind (first_kind ms) x.kind ≡ true) (λ x. x.kind ≡ first_kind ms) ms (λ x e. sym (kinds-same (first_kind ms) x.kind e))
          (all_from_test (λ x. same_kind (first_kind ms) x.kind) ms (not-false (list_all (λ x. same_kind (first_kind ms) x.kind) ms) (or_parts (nat_eq (length ms) 0) (not (list_all (λ x. same_kind (first_kind ms) x.kind) ms)) passed.0).1));
      shape = sym split;
    }
