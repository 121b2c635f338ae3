use Rattle.std.proofs.Common.{Vec, Global, sym, ap}
use Rattle.vtl_cell.specs.Outcome.{join}
use Rattle.vtl_cell.specs.declared.cell.Cell.{Cell}
use Rattle.vtl_scalar.specs.Seen.{seen_of}
use Rattle.vtl_meaning.specs.Analytics.{tree_value}
use Rattle.vtl_tree.specs.Trees.{analytic}
use Rattle.vtl_window.specs.Analyses.{faults_of}
use Rattle.vtl_window.specs.Calls.{lent, maker_tree}
use Rattle.vtl_window.specs.declared.maker.Maker.{Maker}
use Rattle.vtl_window.proofs.AnalysisLemmas.{ok_same}
use Rattle.vtl_window.proofs.columns.cells_made.Goals as goal

pub returns-in-Analytic-clause-seen : goal.returns-in-Analytic-clause-seen
returns-in-Analytic-clause-seen c =
    let before = seen_of c.args.seen.now in
    let of = tree_value c.args.p.now c.args.a.now c.args.kind in
    let points = c.args.a.now.points in
    ok_same c.call_cells.result (λ (v : Vec Cell Global). seen_of c.call_cells.new.seen) (join before (faults_of (of (analytic (lent c.in-Analytic.call))) points)) (join before (faults_of (of (maker_tree c.args.maker)) points))
    (ap (λ (m : Maker). join before (faults_of (of (maker_tree m)) points)) (sym c.in-Analytic.is)) c.call_cells.ensures.seen
