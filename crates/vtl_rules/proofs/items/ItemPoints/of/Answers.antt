use Rattle.std.proofs.Common.{◌≡◌, ◌+◌, ◌++◌, ◌∷◌, [], ◌∙◌, length, arith, ap, sym, subst}
use Rattle.std.specs.List.{range_with_len}
use Rattle.std.proofs.lemmas.List.{length_push}
use Rattle.vtl_index.specs.Groups.{AreLeads, firsts}
use Rattle.vtl_index.specs.Leads.{leads_of}
use Rattle.vtl_index.proofs.KeyGroups.{are_leads}
use Rattle.vtl_rows.specs.Tables.{cells_at}
use Rattle.vtl_tree.specs.Columns.{identifiers_of, place_of, places_in}
use Rattle.vtl_tree.specs.Shown.{shown}
use Rattle.vtl_tree.specs.Structure.{columns_of, key_width}
use Rattle.vtl_tree.specs.declared.structure.Structure.{Structure}
use Rattle.vtl_meaning.specs.Turned.{other_identifiers}
use Rattle.vtl_rules.specs.Itemized.{other_places}
use Rattle.vtl_rules.proofs.items.ItemPoints.of.Goals as goal

pub first_rows-requires : goal.first_rows-requires
first_rows-requires g c = subst AreLeads (sym c.in_ok-by.ensures) (are_leads (cells_at c.deref-4.result.now) c.table-table.result.now.rows)

pub returns : goal.returns
returns g c =
    let id = c.args.id.now in
    let a = c.args.a.now in
    let st = c.structure-structure.result.now in
    let same = c.structure-structure.ensures.structure in
    let rows = c.table-table.ensures.points in
    let others_are : c.in_ok-others.others.items ≡ other_places id a.structure =
    c.in_ok-others.ensures ∙ ap (λ l. places_in (columns_of st) (shown l)) c.deref.ensures.value ∙ ap (places_in (columns_of st)) c.in_ok-other.ensures ∙ ap (λ (s : Structure). other_places id s) same in
    let place : c.place_of.result ≡ place_of id (columns_of a.structure) = c.place_of.ensures.place ∙ ap (λ l. place_of id (shown l)) c.deref-3.ensures.value ∙ ap (place_of id) c.in_ok-columns.ensures ∙ ap (λ (s : Structure). place_of id (columns_of s)) same in
    let own : c.in_ok-own.own.items ≡ other_places id a.structure ++ place_of id (columns_of a.structure) ∷ [] =
    c.in_ok-own.ensures ∙ ap (λ l. l ++ c.place_of.result ∷ []) (c.deref-2.ensures.value ∙ others_are) ∙ ap (λ n. other_places id a.structure ++ n ∷ []) place in
    let wide = ap length own ∙ length_push (other_places id a.structure) (place_of id (columns_of a.structure)) in
    let count : c.len.result ≡ length (other_places id a.structure) + 1 = omega (arith, c.len.ensures, c.in_ok-own.own.ok.0, wide) in
    let asked : c.in_ok-asked.asked.items ≡ range_with_len 0 (length (other_places id a.structure) + 1) =
    c.in_ok-asked.ensures ∙ ap (range_with_len 0) count in
    let sought = c.in_ok-of.ensures.value ∙ (λ j. record { own = (c.deref-5.ensures.value ∙ own) j; asked = (c.deref-6.ensures.value ∙ asked) j; rows = rows j }) in
    let width = c.key_width.ensures ∙ ap (λ (s : Structure). key_width s) same in
    let places = c.in_ok-places_among.ensures ∙ ap (λ l. places_in (shown l) (shown c.deref-8.result.now)) c.deref-7.ensures.value ∙ ap (λ l. places_in l (shown c.deref-8.result.now)) c.in_ok-other.ensures
    ∙ ap (λ l. places_in (other_identifiers id st) (shown l)) c.deref-8.ensures.value ∙ ap (places_in (other_identifiers id st)) c.in_ok-identifiers.ensures ∙ ap (λ (s : Structure). places_in (other_identifiers id s) (identifiers_of s)) same in
    let leading = c.in_ok-leading.ensures ∙ ap firsts (c.in_ok-by.ensures ∙ ap (λ l. leads_of (cells_at l) c.table-table.result.now.rows) (c.deref-4.ensures.value ∙ others_are) ∙ ap (leads_of (cells_at (other_places id a.structure))) rows) in
    λ j. record { sought = sought j; others = others_are j; measure = width j; places = places j; leading = leading j }
