use Rattle.std.proofs.Common.{◌≤◌, ◌++◌, ◌∷◌, [], ap, ◌∙◌, arith}
use Rattle.vtl_cell.specs.declared.cell.Cell.TheVariants as cell
use Rattle.vtl_series.proofs.NumberLemmas.{more_dated}
use Rattle.vtl_series.proofs.series.push_periods.Goals as goal

pub loop-index-preserved : goal.loop-index-preserved
loop-index-preserved c =
    let made = c.in_ok-push_dated.ensures.rows ∙ ap (λ q. c.loop-index.rows.rows ++ (c.args.key.now ++ cell.Period q ∷ []) ∷ []) c.at_index.ensures in
    let behind : c.args.span.first ≤ c.loop-index.index = omega (arith, c.loop-index.auto.index) in
    record {
      columns = c.in_ok-push_dated.ensures.columns ∙ c.loop-index.invariant.columns;
      rows = more_dated c.args.frequency c.args.key.now c.args.span.first c.loop-index.index c.args.rows.now.rows c.loop-index.rows.rows c.push_dated.new.rows.rows behind c.loop-index.invariant.rows made;
      empty = c.in_ok-push_dated.ensures.empty;
    }
