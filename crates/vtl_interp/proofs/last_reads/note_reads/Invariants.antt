use Rattle.std.proofs.Common.{◌≤◌, ℕ, List, take}
use Rattle.std.specs.List.{AllByRecursion}
use Rattle.vtl_interp.specs.Reads.{IsReadFrom, NotedAs}
use Rattle.vtl_interp.proofs.last_reads.note_reads.Given as goal

abbrev pub invariant-loop-name : goal.invariant-loop-name
invariant-loop-name l = record {
  new : AllByRecursion (IsReadFrom l.i l.last.entries) (take l.name-index l.name-items);
  old : (j : ℕ) (name : List ℕ) → j ≤ l.i → IsReadFrom j l.initial.last.entries name → IsReadFrom j l.last.entries name;
  only : NotedAs l.initial.last.entries l.i (take l.name-index l.name-items) l.last.entries;
}
