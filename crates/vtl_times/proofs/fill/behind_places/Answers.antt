use Rattle.std.proofs.Common.{◌++◌, ap, sym, ◌∙◌}
use Rattle.vtl_tree.specs.Columns.{measures_of, places_in}
use Rattle.vtl_tree.specs.Shown.{shown}
use Rattle.vtl_tree.specs.Structure.{columns_of, of_role}
use Rattle.vtl_tree.specs.declared.structure.Role.TheVariants as role
use Rattle.vtl_times.proofs.FillLemmas.{places_append}
use Rattle.vtl_times.proofs.fill.behind_places.Goals as goal

pub returns : goal.returns
returns c =
    let s = c.args.structure.now in
    let first = c.in_ok-places.ensures ∙ (λ i. places_in ((ap shown c.deref.ensures.value ∙ c.in_ok-columns.ensures) i) ((ap shown c.deref-2.ensures.value ∙ c.in_ok-measures.ensures) i)) in
    let second = c.in_ok-behind.ensures ∙ (λ i. places_in ((ap shown c.deref-3.ensures.value ∙ c.in_ok-columns.ensures) i) ((ap shown c.deref-4.ensures.value ∙ c.in_ok-attributes.ensures) i)) in
    c.in_ok-append.ensures.items ∙ (λ i. first i ++ second i) ∙ sym (places_append (columns_of s) (measures_of s) (of_role role.Attribute s))
