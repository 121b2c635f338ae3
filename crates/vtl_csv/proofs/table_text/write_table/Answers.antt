use Rattle.std.proofs.Common.{ap, ◌∙◌, ◌++◌, map}
use Rattle.vtl_cell.specs.Sorted.{rising}
use Rattle.vtl_rows.specs.Keys.{key_of}
use Rattle.vtl_rows.specs.Tables.{listed}
use Rattle.vtl_csv.specs.TableText.{all_places}
use Rattle.vtl_csv.proofs.TableTextLemmas.{listed_keys_within, table_text_is}
use Rattle.vtl_csv.proofs.table_text.write_table.Goals as goal

pub sorted_text-requires : goal.sorted_text-requires
sorted_text-requires c =
    let e = ap (map key_of) c.deref.ensures.value ∙ c.in_ok-keys.ensures ∙ ap (λ columns. map rising (c.args.order.now ++ all_places columns)) c.columns.ensures.columns in
    listed_keys_within _ c.args.order.now c.args.table.now.columns e c.requires

pub returns : goal.returns
returns c =
    let e = ap (map key_of) c.deref.ensures.value ∙ c.in_ok-keys.ensures ∙ ap (λ columns. map rising (c.args.order.now ++ all_places columns)) c.columns.ensures.columns in
    rw (← table_text_is c.args.profile.now c.args.order.now (listed c.args.table.now) _ e c.columns.ensures.wide) c.sorted_text.ensures
