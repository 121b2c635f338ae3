use Rattle.std.proofs.Common.{◌≡◌, ◌<◌, ◌∙◌, ap, sym, subst, length, map, List, ℕ}
use Rattle.std.proofs.lemmas.Result.{IfOk-weaker}
use Rattle.std.proofs.lemmas.List.Elements.{All-same}
use Rattle.vtl_cell.specs.Row.{Row, same_key}
use Rattle.vtl_index.specs.Groups.{AreLeads, firsts}
use Rattle.vtl_index.specs.Leads.{leads_of}
use Rattle.vtl_index.proofs.KeyGroups.{are_leads}
use Rattle.vtl_rows.specs.Places.{row_at}
use Rattle.vtl_rows.specs.Tables.{Tabled, cells_at}
use Rattle.vtl_tuples.specs.Keys.{each_once}
use Rattle.vtl_index.proofs.FirstRows.{all_once, firsts_below, firsts_once}
use Rattle.vtl_rules.proofs.hierarchies.once_by_key.Goals as goal

pub returns-then-len-clause-rows : goal.returns-then-len-clause-rows
returns-then-len-clause-rows c =
    let rows = c.args.table.rows in
    let leads = c.in_ok-groups.ensures ∙ ap (λ ps. leads_of (cells_at ps) rows) (c.deref.ensures.value ∙ c.in_ok-key.ensures) in
    all_once c.args.width rows c.requires (sym (c.len.ensures ∙ ap (λ (l : List ℕ). length (firsts l)) leads) ∙ c.if-len.true ∙ c.len-2.ensures.rows)

pub first_rows-requires : goal.first_rows-requires
first_rows-requires c = subst AreLeads (sym c.in_ok-groups.ensures) (are_leads (cells_at c.deref.result.now) c.args.table.rows)

pub gather-requires : goal.gather-requires
gather-requires c =
    let rows = c.args.table.rows in
    let key : Row → Row = cells_at c.deref.result.now in
    All-same (λ i. i < length rows) c.deref-2.result.now (firsts (leads_of key rows)) (c.deref-2.ensures.value ∙ c.in_ok-rows.ensures ∙ ap firsts c.in_ok-groups.ensures) (firsts_below key rows)

pub returns-clause-rows : goal.returns-clause-rows
returns-clause-rows c =
    let n = c.args.width in
    let rows = c.args.table.rows in
    let leads = c.in_ok-groups.ensures ∙ ap (λ ps. leads_of (cells_at ps) rows) (c.deref.ensures.value ∙ c.in_ok-key.ensures) in
    IfOk-weaker c.gather.result (λ (t : Tabled). t.rows ≡ map (row_at rows) c.deref-2.result.now) (λ (t : Tabled). t.rows ≡ each_once (same_key n) rows)
    (λ t e. e ∙ ap (map (row_at rows)) (c.deref-2.ensures.value ∙ c.in_ok-rows.ensures ∙ ap firsts leads) ∙ firsts_once n rows c.requires) c.gather.ensures.rows
