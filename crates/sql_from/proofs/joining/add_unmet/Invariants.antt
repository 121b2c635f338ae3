use Rattle.std.proofs.Common.{◌≡◌, None}
use Rattle.sql_from.specs.Gains.{Gains}
use Rattle.sql_from.specs.Joins.{unmarked_to}
use Rattle.sql_from.proofs.joining.add_unmet.Given as goal

abbrev pub invariant-loop-j : goal.invariant-loop-j
invariant-loop-j g l = record {
  width : l.so_far.rows.width ≡ l.initial.so_far.rows.width;
  gains : Gains (g.P.Pairing.keeps l.pairing) None (unmarked_to l.marks l.met l.j) l.initial.so_far l.so_far;
}
