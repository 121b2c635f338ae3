use Rattle.std.proofs.Common.{sym, ap, subst, ◌∙◌}
use Rattle.vtl_cell.specs.Outcome.{Outcome}
use Rattle.vtl_cell.specs.declared.cell.Cell.{Cell}
use Rattle.vtl_scalar.specs.Answers.{Answers}
use Rattle.sql_eval.specs.Placed.{aggregate_value}
use Rattle.sql_eval.specs.View.{placed_of}
use Rattle.sql_groups.specs.Grouped.{rows_at}
use Rattle.sql_groups.specs.Kept.{rows_of, tables_of}
use Rattle.sql_groups.proofs.GatheredLemmas.{column_gathered}
use Rattle.sql_groups.proofs.totals.aggregate.Goals as goal

pub returns-in-Column : goal.returns-in-Column
returns-in-Column c =
    let p = c.args.p.now in
    let tables = tables_of c.args.rows.now in
    let rows = rows_at (rows_of c.args.rows.now) c.args.numbers.now in
    subst (λ (m : Outcome Cell). Answers c.of_cells.result m)
    (column_gathered p tables c.args.function c.in-Column.place rows ∙ ap (λ e. aggregate_value p tables c.args.function (placed_of e) rows) (sym c.in-Column.is))
    c.of_cells.ensures
