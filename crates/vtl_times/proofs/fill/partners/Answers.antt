use Rattle.std.proofs.Common.{◌≡◌, ℕ, List, map, ap, subst, ◌∙◌}
use Rattle.std.specs.Prelude.{IfOk}
use Rattle.vtl_cell.specs.Row.{Row}
use Rattle.vtl_index.specs.Seekers.{Sought, first_meant}
use Rattle.vtl_tree.specs.Columns.{identifiers_of, places_in}
use Rattle.vtl_tree.specs.Structure.{columns_of}
use Rattle.vtl_tree.specs.declared.structure.Structure.{Structure}
use Rattle.vtl_timing.specs.Times.{series_columns}
use Rattle.vtl_times.proofs.fill.partners.Goals as goal

abbrev sought : List ℕ → List ℕ → List Row → Sought
sought own asked rows = record { own = own; asked = asked; rows = rows }

pub returns : goal.returns
returns c k =
    let d = k.args.a.now in
    let own = k.deref.ensures.value ∙ k.in_ok-own.ensures ∙ ap (λ (t : Structure). places_in (columns_of t) (identifiers_of t)) k.structure-structure.ensures.structure in
    let asked = k.deref-2.ensures.value ∙ k.in_ok-asked.ensures ∙ ap (λ (t : Structure). places_in (series_columns t) (identifiers_of t)) k.structure-structure.ensures.structure in
    let seeker = k.in_ok-seeker.ensures.value ∙ (λ i. sought (own i) (asked i) (k.table.ensures.points i)) in
    subst (λ (s : Sought). IfOk k.firsts.result (λ v. v.items ≡ map (first_meant s) k.args.series.now.rows)) seeker k.firsts.ensures.places
