use Rattle.std.proofs.Common.{◌≡◌, ◌∙◌, IfSome, List, ap, subst, sym}
use Rattle.vtl_rows.specs.Tables.{Listed, listed}
use Rattle.sql_eval.specs.Origins.{rows_at}
use Rattle.sql_eval.specs.declared.resolved.Tie.{Tie}
use Rattle.sql_from.specs.Held.{rows_held}
use Rattle.sql_from.specs.Lookups.{IsKeyed}
use Rattle.sql_from.specs.Partners.{AreTiedBy, AreTiesImplying}
use Rattle.sql_from.specs.declared.key_pairs.KeyPair.{KeyPair}
use Rattle.sql_from.specs.declared.partner_index.PartnerIndex.{PartnerIndex}
use Rattle.sql_eval.proofs.ResolvedParts.{same_rows}
use Rattle.sql_from.proofs.Found.{index_answers}
use Rattle.sql_from.proofs.partner_index.PartnerIndex.of.Goals as goal

pub returns : goal.returns
returns g c =
    let s = c.args.sources.now in
    let p = c.args.p.now in
    let lead = c.in-Some.lead in
    let own = c.in-Some-found.own.now in
    let rows = c.table-rows.result in
    let table = listed c.table-table.result.now in
    let keys = c.in_ok-keys.keys.items in
    let x : PartnerIndex = record { table = c.in_ok-copy.field-0; ties = c.in_ok-copied.field-0; p = p; rows = rows; keys = c.in_ok-keyed.field-0; is_whole = c.in_ok-keys.is_whole } in
    let asked : own.rows ≡ rows_at (rows_held c.held.result.now) c.args.test.now.table =
    subst (λ o. IfSome o (λ t. t.now.rows ≡ rows_at (rows_held c.held.result.now) c.args.test.now.table)) c.in-Some-found.is c.found.ensures in
    let own_rows : rows_at (rows_held s.held) x.table ≡ rows.now.rows =
    sym (same_rows c.args.test.now.table x.table (rows_held s.held) c.in_ok-copy.ensures)
    ∙ (λ i. rows_at (rows_held (sym c.held.ensures i)) c.args.test.now.table)
    ∙ sym asked ∙ ap (λ (u : Listed). u.rows) (sym c.table-rows.ensures) in
    let ties : c.deref-2.result.now ≡ c.in_ok-copied.field-0.items = c.deref-2.ensures.value ∙ sym (c.in_ok-copied.ensures ∙ c.deref-3.ensures.value) in
    index_answers s x lead table keys c.requires c.in-Some.ensures own_rows c.table-table.ensures.source c.table-table.ensures.held
    (subst (λ (ks : List KeyPair). IsKeyed (listed rows.now) lead table ks p c.in_ok-keyed.field-0) c.deref-4.ensures.value c.in_ok-keyed.ensures.keyed)
    (subst (λ (ts : List Tie). AreTiesImplying s lead ts keys) ties c.in_ok-keys.ensures.implied)
    (λ e. subst (λ (ts : List Tie). AreTiedBy s lead ts keys) ties (c.in_ok-keys.ensures.tied e))
