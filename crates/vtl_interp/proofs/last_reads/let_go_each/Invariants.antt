use Rattle.std.proofs.Common.{◌≡◌, ◌+◌, ℕ, List, None, take}
use Rattle.std.specs.List.{AllByRecursion}
use Rattle.vtl_tree.specs.Environment.{data_of}
use Rattle.vtl_interp.specs.Reads.{IsGone, IsReadFrom}
use Rattle.vtl_interp.proofs.last_reads.let_go_each.Given as goal

abbrev pub invariant-loop-name : goal.invariant-loop-name
invariant-loop-name l = record {
  kept : (other : List ℕ) → IsReadFrom (l.i + 1) l.last.entries other → data_of other l.known.entries ≡ data_of other l.initial.known.entries;
  gone : AllByRecursion (IsGone (l.i + 1) l.last.entries l.known.entries) (take l.name-index l.names);
  no_more : (other : List ℕ) → data_of other l.initial.known.entries ≡ None → data_of other l.known.entries ≡ None;
}
