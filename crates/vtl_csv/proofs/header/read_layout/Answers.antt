use Rattle.std.proofs.Common.{◌≡◌, [], length, option_map, arith, sym, ap, ◌∙◌}
use Rattle.std.proofs.lemmas.List.{length-map}
use Rattle.vtl_lists.specs.Each.{each_some}
use Rattle.vtl_tree.specs.Shown.{shown}
use Rattle.vtl_csv.specs.InputFile.{columns_with, place_in}
use Rattle.vtl_csv.specs.InputSteps.{columns_answer}
use Rattle.vtl_csv.proofs.InputLayoutLemmas.{missing_place}
use Rattle.vtl_csv.proofs.header.read_layout.Goals as goal

pub returns : goal.returns
returns c =
    let columns = shown c.in-Ok.columns.items in
    let header = ap columns_answer (sym c.in-Ok.is) ∙ c.in_ok-columns.ensures ∙ ap (λ xs. columns_with xs [] c.args.fields.now) c.as_slice.ensures in
    let places =
    ap (option_map (λ v. v.items)) (sym c.in-None.is) ∙ c.in_ok-places.ensures ∙ ap (λ l. each_some (place_in (shown l)) (shown c.deref-2.result.now)) c.deref.ensures.value
    ∙ ap (λ l. each_some (place_in columns) (shown l)) c.deref-2.ensures.value ∙ ap (each_some (place_in columns)) c.in_ok-in_order.ensures in
    let shows = length-map c.in-Ok.columns.items (λ r. r.now) in
    let size : c.len.result ≡ length columns = omega (arith, c.len.ensures, c.in-Ok.columns.ok.0, shows) in
    missing_place c.args.structure.now c.args.fields.now columns c.len.result header places size
