use Rattle.std.proofs.Common.{sym, ap, ◌∙◌}
use Rattle.vtl_cell.specs.Kinds.{same_kind}
use Rattle.vtl_cell.specs.declared.kind.Kind.TheVariants as k
use Rattle.vtl_rows.specs.Tables.{column_at}
use Rattle.vtl_series.proofs.EmptyLemmas.{no_series}
use Rattle.vtl_series.proofs.series.rows_of_series.Goals as goal

pub returns-then-not-are_periods-clause-rows : goal.returns-then-not-are_periods-clause-rows
returns-then-not-are_periods-clause-rows c =
    let on = c.args.on in
    let other = ap (λ cs. same_kind (column_at cs on).kind k.Period) (sym c.columns-own.ensures.columns) ∙ sym c.are_periods.ensures ∙ c.if-not-are_periods.true in
    c.new.ensures.rows ∙ sym (no_series c.args.extent on c.args.by.now c.args.table.now.rows c.args.table.now.columns other c.columns-own.ensures.fit)
