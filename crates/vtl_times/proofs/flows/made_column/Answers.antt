use Rattle.std.proofs.Common.{◌≡◌, true, [], Ok, ap, ◌∙◌, rules}
use Rattle.std.proofs.lemmas.List.{get_or-map}
use Rattle.vtl_cell.specs.Row.{column_of}
use Rattle.vtl_cell.specs.declared.cell.Cell.TheVariants as cells
use Rattle.vtl_rows.specs.Places.{row_at}
use Rattle.vtl_tree.specs.Columns.{place_of}
use Rattle.vtl_tree.specs.Measures.{is_measure}
use Rattle.vtl_times.specs.Along.{value_at}
use Rattle.vtl_times.specs.Columns.{outcome_at}
use Rattle.vtl_times.specs.Flows.{made_by}
use Rattle.vtl_times.proofs.FlowLemmas.{flow_is}
use Rattle.vtl_times.proofs.flows.made_column.Goals as goal

pub returns : goal.returns
returns c i h =
    let d = c.args.a.now in
    let p = c.args.p.now in
    let w = c.args.along in
    let y = c.args.component.now in
    let r = row_at d.points i in
    let place = c.place_of-place.result in
    let at = c.place_of-place.ensures.place ∙ ap (place_of y.name) c.requires.columns in
    let one : outcome_at c.in_ok-values.values.items i ≡ value_at p w place d r
    = ap (λ l. outcome_at l i) c.in_ok-values.ensures ∙ get_or-map (value_at p w place d) d.points i [] (Ok cells.Null) h in
    let measure : is_measure y ≡ true = search rules in
    c.column_along.ensures p r i ∙ ap (made_by w p y.kind (column_of place r)) one ∙ flow_is p d y place at r w measure
