use Rattle.std.proofs.Common.{◌≡◌}
use Rattle.std.specs.List.{list_any}
use Rattle.sql_from.specs.Gains.{Tries}
use Rattle.sql_from.specs.Joins.{numbers_to, passes}
use Rattle.sql_from.proofs.pairs.pairs_of.Given as goal

abbrev pub invariant-loop-j : goal.invariant-loop-j
invariant-loop-j g l = record {
  width : l.so_far.rows.width ≡ l.initial.so_far.rows.width;
  any : l.any ≡ list_any (passes (g.C.Condition.value l.condition) l.front) (numbers_to l.j);
  tries : Tries (g.C.Condition.value l.condition) (g.F.Condition.value l.filter) l.front (numbers_to l.j) l.initial.so_far l.so_far l.initial.met.items l.met.items;
}
