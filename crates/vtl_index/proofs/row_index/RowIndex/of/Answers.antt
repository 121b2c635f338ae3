use Rattle.std.proofs.Common.{◌∙◌, ap, length, subst, sym}
use Rattle.vtl_rows.specs.Places.{row_at}
use Rattle.vtl_index.specs.Finders.{IsFinder}
use Rattle.vtl_index.specs.Groups.{AreLeads}
use Rattle.vtl_index.specs.Leads.{leads_of}
use Rattle.vtl_index.specs.RowKeys.{key_at}
use Rattle.vtl_index.proofs.KeyGroups.{are_leads}
use Rattle.vtl_index.proofs.row_index.RowIndex.of.Goals as goal

pub from_leads-requires : goal.from_leads-requires
from_leads-requires g c =
    let rows = c.args.table.now.rows in
    let leads = c.in_ok-leads.ensures.leads ∙ ap (λ key. leads_of (key_at c.args.p.now key) rows) c.deref.ensures.value in
    subst AreLeads (sym leads) (are_leads (key_at c.args.p.now c.args.key.items) rows)

pub invariant_of-result : goal.invariant_of-result
invariant_of-result g c =
    let rows = c.args.table.now.rows in
    let leads = c.in_ok-leads.ensures.leads ∙ ap (λ key. leads_of (key_at c.args.p.now key) rows) c.deref.ensures.value in (
      c.in_ok-groups.ensures ∙ leads,
      subst (λ key. IsFinder (λ i. key_at c.args.p.now key (row_at rows i)) (length rows) c.in_ok-leads.field-0.finder) c.deref.ensures.value c.in_ok-leads.ensures.finder,
    )
