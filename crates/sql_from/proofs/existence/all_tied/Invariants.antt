use Rattle.std.proofs.Common.{◌≡◌, drop}
use Rattle.std.specs.List.{list_all}
use Rattle.sql_eval.specs.Placed.{is_tied}
use Rattle.sql_from.proofs.existence.all_tied.Given as goal

abbrev pub invariant-loop-tie : goal.invariant-loop-tie
invariant-loop-tie g l = list_all (is_tied l.p (g.R.OuterRow.lends l.outer) l.inner) (drop l.tie-index l.ties) ≡ list_all (is_tied l.p (g.R.OuterRow.lends l.outer) l.inner) l.ties
