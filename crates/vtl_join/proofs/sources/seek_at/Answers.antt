use Rattle.std.proofs.Common.{◌≡◌, List, sym, ap, subst, ◌∙◌}
use Rattle.std.specs.Prelude.{IfOk}
use Rattle.std.specs.Borrow.{Bor}
use Rattle.std.proofs.lemmas.List.{length-map}
use Rattle.vtl_index.specs.Seekers.{Sought}
use Rattle.vtl_tree.specs.Shown.{shown}
use Rattle.vtl_tree.specs.Structure.{columns_of}
use Rattle.vtl_tree.specs.declared.structure.Component.{Component}
use Rattle.vtl_tree.specs.Columns.{places_in}
use Rattle.vtl_join.specs.Crossing.{up_to}
use Rattle.vtl_join.specs.Finding.{sought_at}
use Rattle.vtl_join.proofs.Stepping.{sought_is}
use Rattle.vtl_join.proofs.sources.seek_at.Goals as goal

pub returns : goal.returns
returns g c =
    let ids = c.args.identifiers.now in
    let d = c.args.operand.now in
    let own = c.deref-2.ensures.value ∙ c.in_ok-own.ensures ∙ ap (λ (l : List Component). places_in l (shown ids)) (ap shown c.deref.ensures.value ∙ c.in_ok-columns.ensures ∙ ap columns_of c.structure.ensures.structure) in
    let asked = c.deref-3.ensures.value ∙ c.in_ok-asked.ensures ∙ ap up_to (sym (length-map ids (λ (x : Bor Component). x.now))) in
    let made : Sought = record { own = c.deref-2.result.now; asked = c.deref-3.result.now; rows = c.table.result.now.rows } in
    subst (λ (s : Sought). IfOk c.of.result (λ x. x ≡ s)) (sought_is made (sought_at (shown ids) d) own asked c.table.ensures.points) c.of.ensures.value
