use Rattle.std.proofs.Common.{◌≡◌, ◌∷◌, List, map}
use Rattle.vtl_cell.specs.Row.{Row}
use Rattle.vtl_tree.specs.declared.structure.Component.{Component}
use Rattle.vtl_meaning.specs.Aggregates.{Made}
use Rattle.vtl_window.specs.Analyses.{cells_in, made_cells}
use Rattle.vtl_window.proofs.AnalysisLemmas.{IsAcross}
use Rattle.vtl_window.proofs.column.push_across.Given as goal

abbrev pub invariant-loop-column : goal.invariant-loop-column
invariant-loop-column l = (made : Made) (ys : List Component) (points : List Row) → map (cells_in (l.point ∷ points)) l.fn.columns ≡ made_cells made ys (l.point ∷ points) → IsAcross made ys l.point points l.column-index l.columns l.row.items l.fn.row.items
