use Rattle.std.proofs.Common.{◌≡◌, length, map, take}
use Rattle.std.specs.Prelude.{◌==◌, filter}
use Rattle.sql_from.specs.PlacedLists.{AreLists}
use Rattle.sql_exec.proofs.planned.indexed_joins.Given as goal

abbrev pub invariant-loop-entry : goal.invariant-loop-entry
invariant-loop-entry l = record {
  many : length l.joins.items ≡ l.count;
  lists : AreLists (λ n. map (λ i. i.join) (filter (λ i. i.select == n) (take l.entry-index l.indexed))) l.count l.joins.items;
}
