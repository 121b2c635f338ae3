use Rattle.std.proofs.Common.{◌≡◌, drop}
use Rattle.std.specs.List.{list_all, list_any}
use Rattle.vtl_rows.specs.Places.{row_at}
use Rattle.sql_eval.specs.Placed.{is_tied}
use Rattle.sql_from.proofs.existence.is_among.Given as goal

abbrev pub invariant-loop-number : goal.invariant-loop-number
invariant-loop-number g l = list_any (λ n. list_all (is_tied l.p (g.R.OuterRow.lends l.outer) (row_at l.table.rows n)) l.ties) (drop l.number-index l.numbers) ≡ list_any (λ n. list_all (is_tied l.p (g.R.OuterRow.lends l.outer) (row_at l.table.rows n)) l.ties) l.numbers
