use Rattle.std.proofs.Common.{◌≡◌, ℕ, ◌+◌, ◌<◌, Bool, List, ◌∷◌, Option, length, map, sym, ap, subst, All, ◌∙◌}
use Rattle.std.proofs.lemmas.List.{length-map}
use Rattle.std.specs.List.{range_with_len}
use Rattle.vtl_cell.specs.Row.{Row}
use Rattle.vtl_rows.specs.Gathered.{picked_kind}
use Rattle.vtl_rows.specs.Tables.{Listed, listed}
use Rattle.vtl_rows.specs.declared.gather.Pick.{Pick}
use Rattle.vtl_index.specs.Seekers.{Sought}
use Rattle.vtl_tree.specs.declared.structure.Role.TheVariants as role
use Rattle.vtl_tree.specs.declared.structure.Structure.{Structure}
use Rattle.vtl_join.specs.Finding.{all_numbers, sources_around, wants_all}
use Rattle.vtl_join.specs.Gatherings.{Gathers, points_of, width_of}
use Rattle.vtl_join.specs.Joining.{sets_of}
use Rattle.vtl_join.specs.declared.joined.Operand.{Operand}
use Rattle.vtl_join.specs.Picks.{joined_rows, picks_at, places_of, table_of}
use Rattle.vtl_join.proofs.Closed.{beside_rows, lead_below, own_kinds, table_is}
use Rattle.vtl_join.proofs.Gatherings.{rows_gathered, width_gathered}
use Rattle.vtl_join.proofs.closing.beside_lead.Goals as goal

pub of-requires-clause-within : goal.of-requires-clause-within
of-requires-clause-within g c =
    let d = c.args.lead.now in
    let ids = c.in_ok-identifiers.ensures ∙ ap (picks_at 0) (c.deref-2.ensures.value ∙ c.in_ok-places.ensures ∙ ap (places_of role.Identifier) c.structure-2.ensures.structure) in
    subst (λ (ps : List Pick). All (λ p. p.part < length c.args.operands.now + 1) ps) (sym ids) (lead_below (length c.args.operands.now) (places_of role.Identifier d.structure))

pub of-requires-clause-identifiers : goal.of-requires-clause-identifiers
of-requires-clause-identifiers g c =
    let d = c.args.lead.now in
    let ds = sets_of c.args.operands.now in
    let ids = c.in_ok-identifiers.ensures ∙ ap (picks_at 0) (c.deref-2.ensures.value ∙ c.in_ok-places.ensures ∙ ap (places_of role.Identifier) c.structure-2.ensures.structure) in
    let lead = table_is (listed c.table-2.result.now) d c.table-2.ensures.table.columns c.table-2.ensures.points in
    ap (λ (t : Listed). map (picked_kind (t ∷ map table_of ds)) c.in_ok-identifiers.identifiers.items) lead
    ∙ ap (λ (ps : List Pick). map (picked_kind (table_of d ∷ map table_of ds)) ps) ids
    ∙ own_kinds ds d c.args.made.now c.structure.ensures.points.well_formed c.requires.identifiers

pub returns-clause-columns : goal.returns-clause-columns
returns-clause-columns g c = ap (λ (x : Gathers). x.columns) c.in_ok-gathering.ensures

pub returns-clause-width : goal.returns-clause-width
returns-clause-width g c =
    let os = c.args.operands.now in
    ap width_of c.in_ok-gathering.ensures ∙ width_gathered (listed c.table-2.result.now) (sets_of os) ∙ ap (λ n. n + 1) (length-map os (λ (o : Operand). o.set))

pub returns-clause-points : goal.returns-clause-points
returns-clause-points g c =
    let d = c.args.lead.now in
    let a = d.structure in
    let ds = sets_of c.args.operands.now in
    let whole = wants_all c.args.kind in
    let ids = c.in_ok-identifiers.ensures ∙ ap (picks_at 0) (c.deref-2.ensures.value ∙ c.in_ok-places.ensures ∙ ap (places_of role.Identifier) c.structure-2.ensures.structure) in
    let lead = table_is (listed c.table-2.result.now) d c.table-2.ensures.table.columns c.table-2.ensures.points in
    let rows = c.table.result.now.rows in
    let sources = c.deref.ensures.value ∙ c.in_ok-sources.ensures ∙ ap (λ (s : Structure). sources_around s ds c.args.place) c.structure.ensures.structure in
    let tuples = c.in_ok-tuples.ensures ∙ ap (λ (b : Bool). all_numbers b c.deref.result.now rows (range_with_len 0 (length rows))) c.wants_all.ensures
    ∙ ap (λ (xs : List (Option Sought)). all_numbers whole xs rows (range_with_len 0 (length rows))) sources
    ∙ ap (λ (rs : List Row). all_numbers whole (sources_around a ds c.args.place) rs (range_with_len 0 (length rs))) c.table.ensures.points in
    ap (λ (x : Gathers). points_of x c.in_ok-tuples.tuples.items) c.in_ok-gathering.ensures
    ∙ rows_gathered (listed c.table-2.result.now) ds c.in_ok-identifiers.identifiers.items c.args.made.now c.in_ok-tuples.tuples.items
    ∙ ap (λ (t : Listed). joined_rows t ds c.in_ok-identifiers.identifiers.items c.in_ok-tuples.tuples.items) lead
    ∙ ap (λ (ps : List Pick). joined_rows (table_of d) ds ps c.in_ok-tuples.tuples.items) ids
    ∙ ap (λ (ns : List ℕ). joined_rows (table_of d) ds (picks_at 0 (places_of role.Identifier a)) ns) tuples
    ∙ beside_rows whole ds c.args.place d c.requires.lead c.operands_are_sets.ensures
