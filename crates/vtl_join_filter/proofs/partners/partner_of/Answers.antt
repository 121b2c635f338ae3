use Rattle.std.proofs.Common.{List, map, refl, ap, ◌∙◌}
use Rattle.vtl_rows.specs.Tables.{Listed}
use Rattle.vtl_index.specs.RowIndex.{RowLookup}
use Rattle.vtl_index.specs.declared.row_keys.NullKeys.TheVariants.{NotFound}
use Rattle.vtl_join_filter.specs.Partners.{asked_column, own_column}
use Rattle.vtl_join_filter.specs.declared.keys.KeyPair.{KeyPair}
use Rattle.vtl_join_filter.specs.declared.partners.Partner.{Partner}
use Rattle.vtl_join_filter.proofs.Partnered.{is_partner}
use Rattle.vtl_join_filter.proofs.partners.partner_of.Goals as goal

pub returns : goal.returns
returns c sound all =
    let a = c.args.asked.now in
    let pair = c.args.pair in
    let rows = c.in-Some-part.table.now.rows in
    let x : Partner = record { part = pair.own.part; index = c.in_ok-index_by.field-0; front = pair.asked.part; asking = c.in-Some.asking; at = c.in_ok-asked_columns.field-0 } in
    let look : List KeyPair → RowLookup = λ xs. record { rows = rows; key = map own_column xs; nulls = NotFound; p = a.profile.now } in
    is_partner a pair.asked.part pair.own.part c.in-Some.asking.now.rows rows c.in_ok-between.between.items sound (c.in_ok-between.ensures a all)
    (ap (λ (l : Listed). l.rows) c.in-Some.ensures) (ap (λ (l : Listed). l.rows) c.in-Some-part.ensures)
    x refl (c.in_ok-index_by.ensures ∙ ap look c.deref.ensures.value) refl refl (c.in_ok-asked_columns.ensures ∙ ap (map asked_column) c.deref-2.ensures.value)
