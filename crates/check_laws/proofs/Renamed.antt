-- `rename`.
use Rattle.std.proofs.Common.{◌≡◌, List, ◌++◌, map, refl, sym, ap, ◌∙◌}
use Rattle.std.proofs.lemmas.List.{map-append}
use Rattle.std.specs.List.{filter}
use Rattle.vtl_tree.specs.Structure.{columns_of, of_role, same_role}
use Rattle.vtl_tree.specs.Structures.{structure_of}
use Rattle.vtl_tree.specs.declared.structure.Component.{Component}
use Rattle.vtl_tree.specs.declared.structure.Role.{Role}
use Rattle.vtl_tree.specs.declared.structure.Role.TheVariants as role
use Rattle.vtl_tree.specs.declared.structure.Structure.{Structure}
use Rattle.vtl_tree.specs.ClauseShapes.{renamed}
use Rattle.check_shapes.specs.Clauses.{rename_form}
use Rattle.vtl_tree.specs.declared.renaming.Renaming.{Renaming}
use Rattle.vtl_meaning.specs.Made.{IsRenamed}
use Rattle.vtl_meaning.specs.Shapes.{IsRenamedBy, IsShaped}
use Rattle.check_laws.specs.Gives.{Gives}
use Rattle.check_laws.proofs.Shapes.{filter-mapped, shaped-gives}
use Rattle.check_laws.proofs.Twins.{maps-same}

filter-renamed : (rs : List Renaming) (r : Role) (xs : List Component) → filter (λ x. same_role x.role r) (map (renamed rs) xs) ≡ map (renamed rs) (filter (λ x. same_role x.role r) xs)
filter-renamed rs r xs = filter-mapped (λ x. same_role x.role r) (renamed rs) xs (λ x. refl)

renamed-columns : (rs : List Renaming) (a : Structure) → columns_of (structure_of (map (renamed rs) a.components)) ≡ map (renamed rs) (columns_of a)
renamed-columns rs a =
    ap (λ l. l ++ of_role role.Measure s ++ of_role role.Attribute s) (filter-renamed rs role.Identifier a.components)
    ∙ ap (λ l. map (renamed rs) (of_role role.Identifier a) ++ l ++ of_role role.Attribute s) (filter-renamed rs role.Measure a.components)
    ∙ ap (λ l. map (renamed rs) (of_role role.Identifier a) ++ map (renamed rs) (of_role role.Measure a) ++ l) (filter-renamed rs role.Attribute a.components)
    ∙ ap (λ l. l ++ map (renamed rs) (of_role role.Attribute a)) (sym (map-append (renamed rs) (of_role role.Identifier a) (of_role role.Measure a)))
    ∙ sym (map-append (renamed rs) (of_role role.Identifier a ++ of_role role.Measure a) (of_role role.Attribute a))
  where
    s : Structure
    s = structure_of (map (renamed rs) a.components)

pub renamed-fits : (rs : List Renaming) (a : Structure) → Gives (λ s. IsShaped s × IsRenamed a s × IsRenamedBy rs a s) (rename_form rs a.components)
renamed-fits rs a =
    shaped-gives (λ s. IsShaped s × IsRenamed a s × IsRenamedBy rs a s) (map (renamed rs) a.components) (λ s. (
      s,
      record {
        well_formed = s.well_formed;
        kinds = ap (map (λ x. x.kind)) (renamed-columns rs a) ∙ maps-same (renamed rs) (λ x. x.kind) (columns_of a) (λ x. refl);
        roles = ap (map (λ x. x.role)) (renamed-columns rs a) ∙ maps-same (renamed rs) (λ x. x.role) (columns_of a) (λ x. refl);
      },
      refl,
    ))
