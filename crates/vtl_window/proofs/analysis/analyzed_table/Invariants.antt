use Rattle.std.proofs.Common.{◌≡◌, [], drop, map, take}
use Rattle.vtl_tree.specs.Structure.{columns_of}
use Rattle.vtl_meaning.specs.Analytics.{made_of, point_of}
use Rattle.vtl_sets.specs.TableOf.{table_columns}
use Rattle.vtl_tree.specs.NodeView.{analytic_tree}
use Rattle.vtl_window.specs.Analyses.{cells_in, made_cells}
use Rattle.vtl_window.proofs.analysis.analyzed_table.Given as goal

abbrev pub invariant-loop-i : goal.invariant-loop-i
invariant-loop-i l = record {
  columns : l.points.columns ≡ table_columns l.made;
  rows : l.points.rows ≡ map (point_of (made_of l.p (analytic_tree l.spec) l.a) (columns_of l.made)) (take l.i l.a.points);
  row : l.row.items ≡ [];
  left : map (cells_in (drop l.i l.a.points)) l.columns.items ≡ made_cells (made_of l.p (analytic_tree l.spec) l.a) (columns_of l.made) (drop l.i l.a.points);
}
