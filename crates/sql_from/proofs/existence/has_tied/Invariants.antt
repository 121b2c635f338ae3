use Rattle.std.proofs.Common.{◌≡◌, drop}
use Rattle.std.specs.List.{list_all, list_any}
use Rattle.sql_eval.specs.Placed.{is_tied}
use Rattle.sql_from.proofs.existence.has_tied.Given as goal

abbrev pub invariant-loop-i : goal.invariant-loop-i
invariant-loop-i g l = list_any (λ inner. list_all (is_tied l.p (g.R.OuterRow.lends l.outer) inner) l.ties) (drop l.i l.table.rows) ≡ list_any (λ inner. list_all (is_tied l.p (g.R.OuterRow.lends l.outer) inner) l.ties) l.table.rows
