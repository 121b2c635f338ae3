use Rattle.std.proofs.Common.{◌≡◌, ℕ, ◌+◌, ◌<◌, List, ◌∷◌, Option, Some, false, length, map, sym, ap, subst, All, ◌∙◌}
use Rattle.std.specs.Borrow.{Bor}
use Rattle.std.specs.Prelude.{IfOk}
use Rattle.std.specs.List.{range_with_len}
use Rattle.std.proofs.lemmas.List.{length-map}
use Rattle.vtl_cell.specs.Row.{Row}
use Rattle.vtl_rows.specs.Gathered.{picked_kind}
use Rattle.vtl_rows.specs.declared.gather.Pick.{Pick}
use Rattle.vtl_index.specs.Seekers.{Sought}
use Rattle.vtl_tree.specs.Shown.{shown}
use Rattle.vtl_tree.specs.declared.structure.Component.{Component}
use Rattle.vtl_tree.specs.Columns.{identifiers_of}
use Rattle.vtl_meaning.specs.Joined.{all_keys}
use Rattle.vtl_rows.specs.Tables.{listed}
use Rattle.vtl_join.specs.Crossing.{up_to}
use Rattle.vtl_join.specs.Finding.{all_numbers, sought_at}
use Rattle.vtl_join.specs.Joining.{sets_of}
use Rattle.vtl_join.specs.Keys.{key_cells, key_kinds}
use Rattle.vtl_join.specs.Picks.{joined_rows, picks_at, table_of}
use Rattle.vtl_join.proofs.Closed.{lead_below, lead_kinds}
use Rattle.vtl_join.proofs.KeyRows.{full_rows}
use Rattle.vtl_join.proofs.closing.full_table.Goals as goal

pub gathered-requires-clause-within : goal.gathered-requires-clause-within
gathered-requires-clause-within g c =
    subst (λ (ps : List Pick). All (λ p. p.part < length c.args.operands.now + 1) ps) (sym c.in_ok-picks.ensures) (lead_below (length c.args.operands.now) c.deref-4.result.now)

pub gathered-requires-clause-identifiers : goal.gathered-requires-clause-identifiers
gathered-requires-clause-identifiers g c =
    let ids = identifiers_of c.args.reference.now.structure in
    let ds = sets_of c.args.operands.now in
    let lead = listed c.in_ok-lead.lead in
    let seen : shown c.deref.result.now ≡ ids = ap shown c.deref.ensures.value ∙ c.in_ok-identifiers.ensures ∙ ap identifiers_of c.structure.ensures.structure in
    let many = c.len.ensures ∙ sym c.deref.ensures.len ∙ sym (length-map c.deref.result.now (λ (x : Bor Component). x.now)) ∙ ap length seen in
    let picks = c.in_ok-picks.ensures ∙ ap (picks_at 0) (c.deref-4.ensures.value ∙ c.in_ok-up_to.ensures ∙ ap up_to many) in
    ap (λ (ps : List Pick). map (picked_kind (lead ∷ map table_of ds)) ps) picks ∙ lead_kinds lead (map table_of ds) ids c.args.made.now (c.in_ok-lead.ensures.columns ∙ ap key_kinds seen) c.requires.identifiers

pub returns-clause-rows : goal.returns-clause-rows
returns-clause-rows g c =
    let r = c.args.reference.now in
    let ids = identifiers_of r.structure in
    let ds = sets_of c.args.operands.now in
    let lead = listed c.in_ok-lead.lead in
    let seen : shown c.deref.result.now ≡ ids = ap shown c.deref.ensures.value ∙ c.in_ok-identifiers.ensures ∙ ap identifiers_of c.structure.ensures.structure in
    let again : shown c.deref-2.result.now ≡ ids = ap shown c.deref-2.ensures.value ∙ c.in_ok-identifiers.ensures ∙ ap identifiers_of c.structure.ensures.structure in
    let many = c.len.ensures ∙ sym c.deref.ensures.len ∙ sym (length-map c.deref.result.now (λ (x : Bor Component). x.now)) ∙ ap length seen in
    let picks = c.in_ok-picks.ensures ∙ ap (picks_at 0) (c.deref-4.ensures.value ∙ c.in_ok-up_to.ensures ∙ ap up_to many) in
    let keys = subst (λ (l : List Component). map (key_cells l) lead.rows ≡ all_keys l ds) seen c.in_ok-lead.ensures.keys in
    let sources = c.deref-3.ensures.value ∙ c.in_ok-sources.ensures ∙ ap (λ (l : List Component). map (λ d. Some (sought_at l d)) ds) again in
    let tuples = c.deref-5.ensures.value ∙ c.in_ok-tuples.ensures ∙ ap (λ (xs : List (Option Sought)). all_numbers false xs lead.rows (range_with_len 0 (length lead.rows))) sources in
    let all = ap (λ (ps : List Pick). joined_rows lead ds ps c.deref-5.result.now) picks
    ∙ ap (λ (ns : List ℕ). joined_rows lead ds (picks_at 0 (range_with_len 0 (length ids))) ns) tuples
    ∙ full_rows lead r ds keys in
    subst (λ (l : List Row). IfOk c.gathered.result (λ t. t.rows ≡ l)) all c.gathered.ensures.rows
