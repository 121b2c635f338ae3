use Rattle.std.proofs.Common.{ap, ◌∙◌, map}
use Rattle.std.specs.List.{range_with_len}
use Rattle.vtl_cell.specs.Sorted.{rising}
use Rattle.vtl_rows.specs.Keys.{key_of}
use Rattle.vtl_rows.specs.Tables.{listed}
use Rattle.vtl_csv.proofs.DataSetTextLemmas.{dataset_text_is, identifiers_within}
use Rattle.vtl_csv.proofs.table_text.write_dataset.Goals as goal

pub sorted_text-requires : goal.sorted_text-requires
sorted_text-requires c =
    identifiers_within c.args.structure.now _ _ c.requires (ap (map key_of) c.deref.ensures.value ∙ c.in_ok-keys.ensures ∙ ap (λ n. map rising (range_with_len 0 n)) c.in_ok-count.ensures)

pub returns : goal.returns
returns c =
    rw (← dataset_text_is c.args.profile.now c.args.structure.now (listed c.args.table.now) _ c.requires (ap (map key_of) c.deref.ensures.value ∙ c.in_ok-keys.ensures ∙ ap (λ n. map rising (range_with_len 0 n)) c.in_ok-count.ensures))
    c.sorted_text.ensures
