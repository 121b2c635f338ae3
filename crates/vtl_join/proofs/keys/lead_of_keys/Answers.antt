use Rattle.std.proofs.Common.{◌≡◌, ℕ, ◌<◌, List, length, map, sym, ap, subst, All, ◌∙◌}
use Rattle.std.specs.Borrow.{Bor}
use Rattle.std.specs.List.{range_with_len}
use Rattle.std.proofs.lemmas.List.{length-map}
use Rattle.vtl_cell.specs.Row.{Row}
use Rattle.vtl_rows.specs.Places.{row_at}
use Rattle.vtl_rows.specs.Tables.{Tabled, cells_at}
use Rattle.vtl_index.specs.Groups.{AreLeads, firsts}
use Rattle.vtl_index.specs.Leads.{leads_of}
use Rattle.vtl_index.proofs.KeyGroups.{are_leads}
use Rattle.vtl_tree.specs.Shown.{shown}
use Rattle.vtl_tree.specs.declared.structure.Component.{Component}
use Rattle.vtl_meaning.specs.Joined.{all_keys}
use Rattle.vtl_join.specs.Joining.{sets_of}
use Rattle.vtl_join.specs.Keys.{all_key_rows, key_cells}
use Rattle.vtl_join.proofs.KeyRows.{lead_keys}
use Rattle.vtl_join.proofs.KeyTables.{firsts_within, groups_count}
use Rattle.vtl_join.proofs.Stepping.{if_ok}
use Rattle.vtl_join.proofs.keys.lead_of_keys.Goals as goal

pub first_rows-requires : goal.first_rows-requires
first_rows-requires c =
    subst AreLeads (sym c.in_ok-groups.ensures) (are_leads (cells_at c.deref.result.now) c.in_ok-keys.keys.rows)

pub gather-requires : goal.gather-requires
gather-requires c =
    let rows = c.in_ok-keys.keys.rows in
    let first = c.deref-2.ensures.value ∙ c.in_ok-first_rows.ensures in
    subst (λ (l : List ℕ). All (λ i. i < length rows) l) (sym first) (firsts_within c.in_ok-groups.groups (length rows) (groups_count (cells_at c.deref.result.now) rows c.in_ok-groups.groups c.in_ok-groups.ensures))

pub returns-clause-keys : goal.returns-clause-keys
returns-clause-keys c =
    let ids = shown c.args.identifiers.now in
    let ds = sets_of c.args.operands.now in
    let own = c.deref.ensures.value ∙ c.in_ok-own.ensures ∙ ap (range_with_len 0) (sym (length-map c.args.identifiers.now (λ (x : Bor Component). x.now))) in
    let groups = c.in_ok-groups.ensures ∙ ap (λ (l : List ℕ). leads_of (cells_at l) c.in_ok-keys.keys.rows) own ∙ ap (leads_of (key_cells ids)) c.in_ok-keys.ensures.rows in
    let first = c.deref-2.ensures.value ∙ c.in_ok-first_rows.ensures ∙ ap firsts groups in
    let rows = ap (λ (l : List ℕ). map (row_at c.in_ok-keys.keys.rows) l) first ∙ ap (λ (l : List Row). map (row_at l) (firsts (leads_of (key_cells ids) (all_key_rows ids ds)))) c.in_ok-keys.ensures.rows in
    if_ok (λ (t : Tabled). t.rows ≡ map (row_at c.in_ok-keys.keys.rows) c.deref-2.result.now) (λ (t : Tabled). map (key_cells ids) t.rows ≡ all_keys ids ds) c.gather.result (λ t e. ap (map (key_cells ids)) (e ∙ rows) ∙ lead_keys ids ds) c.gather.ensures.rows
