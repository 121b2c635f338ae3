use Rattle.std.proofs.Common.{[], ◌∷◌, map, take, ap, sym, ◌∙◌}
use Rattle.std.proofs.lemmas.List.{map-append}
use Rattle.vtl_cell.specs.Outcome.{join}
use Rattle.vtl_tree.specs.Shown.{shown}
use Rattle.vtl_meaning.specs.Analytics.{made_of}
use Rattle.vtl_tree.specs.NodeView.{analytic_tree}
use Rattle.vtl_window.specs.Analyses.{cells_in, faults_of, made_cells, made_faults}
use Rattle.vtl_window.proofs.AnalysisLemmas.{cells_more_columns, faults_more_columns, shown_next}
use Rattle.vtl_window.proofs.columns.made_columns.Goals as goal

pub loop-column-preserved : goal.loop-column-preserved
loop-column-preserved c =
    let made = made_of c.args.p.now (analytic_tree c.args.spec.now) c.args.a.now in
    let points = c.args.a.now.points in
    let before = shown (take c.loop-column.column-index c.args.wanted.now) in
    let y = c.column-item.result.now in
    let next = shown_next c.args.wanted.now c.loop-column.column-index c.column-item.result c.loop-column-test.true c.column-item.is in
    let cells = cells_in points in
    let one = c.in_ok-made_column in
    record {
      columns =
          ap (map cells) c.in_ok-push.ensures.items ∙ map-append cells c.loop-column.columns.items (one.field-0 ∷ [])
          ∙ cells_more_columns made points before y (map cells c.loop-column.columns.items) (cells one.field-0) c.loop-column.invariant.columns one.ensures.cells
          ∙ ap (λ ys. made_cells made ys points) (sym next);
      seen =
          one.ensures.seen ∙ ap (λ s. join s (faults_of (made y) points)) c.loop-column.invariant.seen
          ∙ faults_more_columns made points before y ∙ ap (λ ys. made_faults made ys points) (sym next);
    }
