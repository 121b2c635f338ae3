use Rattle.std.proofs.Common.{◌≡◌}
use Rattle.sql_from.proofs.series_reads.+made.Given as goal

abbrev pub invariant-make_all-loop-e : goal.invariant-make_all-loop-e
invariant-make_all-loop-e l = l.given ≡ l.initial.given

abbrev pub invariant-make_branches-loop-branch : goal.invariant-make_branches-loop-branch
invariant-make_branches-loop-branch l = l.given ≡ l.initial.given
