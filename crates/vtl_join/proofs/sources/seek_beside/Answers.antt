use Rattle.std.proofs.Common.{◌≡◌, List, ap, subst, ◌∙◌}
use Rattle.std.specs.Prelude.{IfOk}
use Rattle.vtl_index.specs.Seekers.{Sought}
use Rattle.vtl_tree.specs.Shown.{shown}
use Rattle.vtl_tree.specs.Structure.{columns_of}
use Rattle.vtl_tree.specs.declared.structure.Component.{Component}
use Rattle.vtl_tree.specs.Columns.{common_identifiers, places_in}
use Rattle.vtl_join.specs.Finding.{sought_beside}
use Rattle.vtl_join.proofs.Stepping.{sought_is}
use Rattle.vtl_join.proofs.sources.seek_beside.Goals as goal

pub returns : goal.returns
returns g c =
    let a = c.args.asking.now in
    let d = c.args.operand.now in
    let b = d.structure in
    let is = c.structure-structure.ensures.structure in
    let common = c.in_ok-common.ensures ∙ ap (common_identifiers a) is in
    let own = c.deref-5.ensures.value ∙ c.in_ok-own.ensures ∙ ap (λ (l : List Component). places_in l (shown c.deref-2.result.now)) (ap shown c.deref.ensures.value ∙ c.in_ok-columns.ensures ∙ ap columns_of is) ∙ ap (places_in (columns_of b)) (ap shown c.deref-2.ensures.value ∙ common) in
    let asked = c.deref-6.ensures.value ∙ c.in_ok-asked.ensures ∙ ap (λ (l : List Component). places_in l (shown c.deref-4.result.now)) (ap shown c.deref-3.ensures.value ∙ c.in_ok-columns-2.ensures) ∙ ap (places_in (columns_of a)) (ap shown c.deref-4.ensures.value ∙ common) in
    let made : Sought = record { own = c.deref-5.result.now; asked = c.deref-6.result.now; rows = c.table.result.now.rows } in
    subst (λ (s : Sought). IfOk c.of.result (λ x. x ≡ s)) (sought_is made (sought_beside a d) own asked c.table.ensures.points) c.of.ensures.value
