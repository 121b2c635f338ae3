use Rattle.std.proofs.Common.{sym, ◌∙◌}
use Rattle.vtl_cell.specs.Row.{column_of}
use Rattle.vtl_rows.specs.Places.{row_at}
use Rattle.vtl_join_filter.proofs.Keyed.{meet_as_is}
use Rattle.vtl_join_filter.proofs.keys.form_of.Goals as goal

pub returns-else-are_mixed : goal.returns-else-are_mixed
returns-else-are_mixed c i j p h =
    let plain = sym c.are_mixed.ensures ∙ c.if-are_mixed.false in
    meet_as_is c.kind_of.result c.kind_of-2.result (column_of c.args.left_column (row_at c.args.left.now.rows i)) (column_of c.args.right_column (row_at c.args.right.now.rows j)) plain (c.kind_of.ensures i) (c.kind_of-2.ensures j) p h
