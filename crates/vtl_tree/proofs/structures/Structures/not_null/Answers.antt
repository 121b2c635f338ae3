use Rattle.std.proofs.Common.{◌≡◌, [], Option, Some, sym, ap, ◌∙◌}
use Rattle.std.specs.Option.{option_map_or}
use Rattle.vtl_tree.specs.NotNull.{Declared, are_not_null, not_null_of}
use Rattle.vtl_tree.specs.Structures.{components_of, structure_of}
use Rattle.vtl_tree.specs.declared.structures.Declaration.{Declaration}
use Rattle.vtl_tree.proofs.DeclarationLemmas.{list_fits, list_found}
use Rattle.vtl_tree.proofs.structures.Structures.not_null.Goals as goal

pub returns-in-Some-clause-list : goal.returns-in-Some-clause-list
returns-in-Some-clause-list c =
    let name = c.args.name.now in
    c.as_slice.ensures ∙ ap (λ (o : Option Declaration). option_map_or (λ d. d.not_null) o []) c.in-Some.ensures ∙ sym (list_found c.self.inside.by_name name c.self.invariant.distinct)
    ∙ ap (λ (d : Declared). not_null_of name d.not_null) c.self.view_is

pub returns-in-Some-clause-fit : goal.returns-in-Some-clause-fit
returns-in-Some-clause-fit c =
    let name = c.args.name.now in
    let d = c.in-Some.declaration.now in
    ap (are_not_null (structure_of (components_of name c.args.self.now.sets))) c.as_slice.ensures
    ∙ ap (λ (v : Declared). are_not_null (structure_of (components_of name v.sets)) d.not_null) (sym c.self.view_is)
    ∙ list_fits c.self.inside.by_name name (Some d) c.self.invariant.all (sym c.in-Some.ensures)

pub returns-in-None-clause-list : goal.returns-in-None-clause-list
returns-in-None-clause-list c =
    let name = c.args.name.now in
    ap (λ (o : Option Declaration). option_map_or (λ d. d.not_null) o []) c.in-None.ensures ∙ sym (list_found c.self.inside.by_name name c.self.invariant.distinct)
    ∙ ap (λ (d : Declared). not_null_of name d.not_null) c.self.view_is
