use Rattle.std.proofs.Common.{◌≡◌, None, map, take}
use Rattle.sql_from.specs.Gains.{AreMarked, Gains}
use Rattle.sql_from.specs.Joins.{with_number}
use Rattle.sql_from.proofs.lookup.add_found.Given as goal

abbrev pub invariant-loop-number : goal.invariant-loop-number
invariant-loop-number g l = record {
  width : l.so_far.rows.width ≡ l.initial.so_far.rows.width;
  gains : Gains (g.F.Condition.value l.filter) None (map (with_number l.front) (take l.number-index l.found)) l.initial.so_far l.so_far;
  marked : AreMarked (take l.number-index l.found) l.initial.met.items l.met.items;
}
