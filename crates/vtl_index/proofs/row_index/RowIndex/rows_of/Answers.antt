use Rattle.std.proofs.Common.{◌∙◌, ap, arith, sym}
use Rattle.vtl_index.specs.GroupedRows.{lookup_of}
use Rattle.vtl_index.specs.RowIndex.{first_found, found_rows}
use Rattle.vtl_index.specs.RowKeys.{key_of}
use Rattle.vtl_index.proofs.Probes.{led_by_first, none_by_first}
use Rattle.vtl_index.proofs.row_index.RowIndex.rows_of.Goals as goal

pub returns-then-first-len : goal.returns-then-first-len
returns-then-first-len c =
    let rows = c.self.inside.rows in
    let k = key_of c.args.key.now in
    let first = c.first_of-first.ensures ∙ ap (λ x. first_found x k) (sym c.self.view_is) in
    c.beside.ensures ∙ led_by_first (lookup_of rows) k c.first_of-first.result first rows.groups c.self.invariant.0 (omega arith) ∙ ap (λ x. found_rows x k) c.self.view_is

pub returns-else-first-len : goal.returns-else-first-len
returns-else-first-len c =
    let k = key_of c.args.key.now in
    let first = c.first_of-first.ensures ∙ ap (λ x. first_found x k) (sym c.self.view_is) in
    none_by_first (lookup_of c.self.inside.rows) k c.first_of-first.result first (omega arith) ∙ ap (λ x. found_rows x k) c.self.view_is
