use Rattle.std.proofs.Common.{◌≡◌, ◌+◌, length, take, true}
use Rattle.std.specs.List.{flat_map}
use Rattle.sql_from.specs.Joins.{pairs_with}
use Rattle.sql_from.proofs.lookup.Lookup.count_found.Given as goal

abbrev pub invariant-loop-i : goal.invariant-loop-i
invariant-loop-i g l = l.self.rows.now.is_whole ≡ true → l.steps ≡ l.initial.steps + length (flat_map (pairs_with (g.C.Condition.value l.self.condition.now) l.self.rows.now.keys.count) (take l.i l.left.tuples))
