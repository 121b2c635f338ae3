use Rattle.std.proofs.Common.{◌≡◌, length, take}
use Rattle.std.specs.Prelude.{◌==◌, filter}
use Rattle.sql_from.specs.PlacedLists.{AreLists}
use Rattle.sql_exec.proofs.planned.early_parts.Given as goal

abbrev pub invariant-loop-entry : goal.invariant-loop-entry
invariant-loop-entry l = record {
  many : length l.parts.items ≡ l.count;
  lists : AreLists (λ n. filter (λ e. e.select == n) (take l.entry-index l.early)) l.count l.parts.items;
}
