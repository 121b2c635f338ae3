use Rattle.std.proofs.Common.{◌∙◌, ap, not, sym}
use Rattle.vtl_lists.proofs.Filters.{list_any-map}
use Rattle.vtl_cell.specs.Kinds.{is_null}
use Rattle.vtl_index.specs.RowIndex.{is_sought}
use Rattle.vtl_index.specs.RowKeys.{key_cell, key_of}
use Rattle.vtl_index.proofs.firsts.is_sought.Goals as goal

pub returns-in-NotFound : goal.returns-in-NotFound
returns-in-NotFound c =
    let key = c.args.key.now in
    ap not (c.has_null.ensures ∙ sym (list_any-map is_null (key_cell key.p.now key.row.now) key.columns.now))
    ∙ ap (λ nulls. is_sought nulls (key_of key)) (sym c.in-NotFound.is)
