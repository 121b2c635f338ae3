use Rattle.std.proofs.Common.{IfOk, ◌≡◌, ◌∙◌, ap, subst, sym}
use Rattle.vtl_rows.specs.Tables.{cells_at}
use Rattle.vtl_index.specs.Groups.{AreLeads}
use Rattle.vtl_index.specs.Leads.{leads_of}
use Rattle.vtl_index.specs.RowKeys.{key_at}
use Rattle.vtl_index.proofs.KeyForms.{plain_keys}
use Rattle.vtl_index.proofs.KeyGroups.{are_leads}
use Rattle.vtl_index.proofs.groups.Groups.by.Goals as goal

pub from_leads-requires : goal.from_leads-requires
from_leads-requires c =
    let rows = c.args.table.now.rows in
    let p = c.any_profile-p.result in
    let key = ap (key_at p) (c.deref.ensures.value ∙ c.in_ok-key.ensures) ∙ plain_keys p c.args.columns.now in
    let leads = c.into_leads.ensures ∙ c.in_ok-led.ensures.leads ∙ ap (λ key. leads_of key rows) key in
    subst AreLeads (sym leads) (are_leads (cells_at c.args.columns.now) rows)

pub returns : goal.returns
returns c =
    let rows = c.args.table.now.rows in
    let p = c.any_profile-p.result in
    let key = ap (key_at p) (c.deref.ensures.value ∙ c.in_ok-key.ensures) ∙ plain_keys p c.args.columns.now in
    let leads = c.into_leads.ensures ∙ c.in_ok-led.ensures.leads ∙ ap (λ key. leads_of key rows) key in
    subst (λ l. IfOk c.from_leads.result (λ g. g ≡ l)) leads c.from_leads.ensures
