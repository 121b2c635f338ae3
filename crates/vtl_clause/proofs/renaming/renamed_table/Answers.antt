use Rattle.std.proofs.Common.{◌≡◌, List, ap, sym, subst, ◌∙◌}
use Rattle.vtl_cell.specs.Row.{Row}
use Rattle.vtl_rows.specs.Tables.{column_kinds}
use Rattle.vtl_tree.specs.DataSet.{IsDataSet}
use Rattle.vtl_tree.specs.Structure.{columns_of}
use Rattle.vtl_sets.proofs.ColumnLemmas.{kinds_of_columns}
use Rattle.vtl_meaning.proofs.Kept.{renamed_kept}
use Rattle.vtl_clause.proofs.renaming.renamed_table.Goals as goal

pub with_columns-requires : goal.with_columns-requires
with_columns-requires c =
    ap column_kinds c.in_ok-columns.ensures ∙ kinds_of_columns (columns_of c.args.made.now) ∙ c.requires.kinds
    ∙ sym (ap column_kinds c.in_ok-table.ensures.table.columns ∙ kinds_of_columns (columns_of c.args.a.now.structure))

pub returns-clause-table : goal.returns-clause-table
returns-clause-table c = record {
  columns = c.with_columns.ensures.columns ∙ c.in_ok-columns.ensures;
  points = subst (λ (l : List Row). IsDataSet c.args.made.now l) (sym c.with_columns.ensures.rows) (renamed_kept c.args.a.now.structure c.args.made.now c.in_ok-table.table.rows c.requires c.in_ok-table.ensures.table.points);
}
