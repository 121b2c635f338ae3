use Rattle.std.proofs.Common.{length, ap, sym, ◌∙◌}
use Rattle.std.proofs.lemmas.List.{length-map}
use Rattle.vtl_index.specs.Seekers.{Sought}
use Rattle.vtl_tree.specs.Shown.{shown}
use Rattle.vtl_tree.specs.Structure.{columns_of}
use Rattle.vtl_tree.specs.declared.structure.Structure.{Structure}
use Rattle.vtl_tree.specs.Columns.{identifiers_of, place_of, places_in}
use Rattle.vtl_expr.proofs.FindingLemmas.{seeks_first}
use Rattle.vtl_expr.proofs.partners.Partners.of.Goals as goal

pub invariant_of-result : goal.invariant_of-result
invariant_of-result g c =
    let asking = c.args.asking.now in
    let s = c.args.other.now.structure in
    let x = c.in_ok-seeker.seeker in
    let same = c.structure-structure.ensures.structure in
    let names = ap shown c.deref.ensures.value ∙ c.in_ok-identifiers.ensures ∙ ap identifiers_of same in
    let names' = ap shown c.deref-2.ensures.value ∙ c.in_ok-identifiers.ensures ∙ ap identifiers_of same in
    let asked = ap (λ (y : Sought). y.asked) c.in_ok-seeker.ensures.value ∙ c.deref-4.ensures.value ∙ c.in_ok-asked.ensures ∙ ap (places_in (columns_of asking)) names in
    let own = ap (λ (y : Sought). y.own) c.in_ok-seeker.ensures.value ∙ c.deref-3.ensures.value ∙ c.in_ok-own.ensures ∙ ap (λ (y : Structure). places_in (columns_of y) (shown c.deref-2.result.now)) same ∙ ap (places_in (columns_of s)) names' in
    let rows = ap (λ (y : Sought). y.rows) c.in_ok-seeker.ensures.value in (
      sym rows,
      seeks_first s c.table-table.result.now.rows x.own x.asked x.rows own (ap length asked ∙ length-map (identifiers_of s) (λ y. place_of y.name (columns_of asking))) rows c.table-table.ensures.table.points,
    )
