use Rattle.std.proofs.Common.{◌≡◌, length, take}
use Rattle.sql_from.specs.Conditions.{parts_at}
use Rattle.sql_from.specs.PlacedLists.{AreLists}
use Rattle.sql_from.proofs.early.parts_by_join.Given as goal

abbrev pub invariant-loop-entry : goal.invariant-loop-entry
invariant-loop-entry l = record {
  many : length l.lists.items ≡ l.count;
  lists : AreLists (parts_at l.parts (take l.entry-index l.early)) l.count l.lists.items;
}
