use Rattle.std.proofs.Common.{List, get_or, ap, sym, subst}
use Rattle.vtl_rows.specs.Tables.{AllFit}
use Rattle.vtl_rows.specs.declared.column.Column.{Column}
use Rattle.vtl_join_filter.proofs.Keyed.{kind_within}
use Rattle.vtl_join_filter.proofs.keys.kind_of.Goals as goal

pub returns-then-column-columns : goal.returns-then-column-columns
returns-then-column-columns c i =
    let columns = c.columns-columns.result.now in
    let rows = c.args.table.now.rows in
    let x = c.index-columns-column in
    kind_within columns rows c.args.column i (get_or columns c.args.column x.result) (subst (λ (l : List Column). AllFit l rows) (sym c.columns-columns.ensures.columns) c.columns-columns.ensures.fit) c.if-column-columns.true (ap (λ (y : Column). get_or columns c.args.column y) x.is)
