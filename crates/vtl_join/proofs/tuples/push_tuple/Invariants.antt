use Rattle.std.proofs.Common.{◌≡◌, ◌∷◌, ◌++◌, ◌||◌, map, not, take, true}
use Rattle.std.specs.List.{list_all}
use Rattle.vtl_join.specs.Finding.{is_listed, listed_number}
use Rattle.vtl_join.proofs.tuples.push_tuple.Given as goal

abbrev pub invariant-loop-rows : goal.invariant-loop-rows
invariant-loop-rows l = record {
  tuples : l.tuples.items ≡ l.fn.tuples.items ++ l.i ∷ map (listed_number l.i) (take l.rows-index l.found);
  kept : not l.whole || list_all (is_listed l.i) (take l.rows-index l.found) ≡ true;
}
