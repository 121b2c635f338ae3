use Rattle.std.proofs.Common.{◌≡◌, map, take}
use Rattle.vtl_tree.specs.Shown.{shown}
use Rattle.vtl_scalar.specs.Seen.{seen_of}
use Rattle.vtl_meaning.specs.Analytics.{made_of}
use Rattle.vtl_tree.specs.NodeView.{analytic_tree}
use Rattle.vtl_window.specs.Analyses.{cells_in, made_cells, made_faults}
use Rattle.vtl_window.proofs.columns.made_columns.Given as goal

abbrev pub invariant-loop-column : goal.invariant-loop-column
invariant-loop-column l = record {
  columns : map (cells_in l.a.points) l.columns.items ≡ made_cells (made_of l.p (analytic_tree l.spec) l.a) (shown (take l.column-index l.wanted)) l.a.points;
  seen : seen_of l.seen ≡ made_faults (made_of l.p (analytic_tree l.spec) l.a) (shown (take l.column-index l.wanted)) l.a.points;
}
