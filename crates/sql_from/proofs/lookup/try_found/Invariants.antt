use Rattle.std.proofs.Common.{◌≡◌, take}
use Rattle.std.specs.List.{list_any}
use Rattle.sql_from.specs.Gains.{Tries}
use Rattle.sql_from.specs.Joins.{passes}
use Rattle.sql_from.proofs.lookup.try_found.Given as goal

abbrev pub invariant-loop-number : goal.invariant-loop-number
invariant-loop-number g l = record {
  width : l.so_far.rows.width ≡ l.initial.so_far.rows.width;
  any : l.any ≡ list_any (passes (g.C.Condition.value l.condition) l.front) (take l.number-index l.found);
  tries : Tries (g.C.Condition.value l.condition) (g.F.Condition.value l.filter) l.front (take l.number-index l.found) l.initial.so_far l.so_far l.initial.met.items l.met.items;
}
