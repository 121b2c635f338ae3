use Rattle.std.proofs.Common.{◌≡◌, ℕ, drop, map, take}
use Rattle.std.specs.Prelude.{nat_le}
use Rattle.sql_tree.specs.View.{join_tree}
use Rattle.sql_plan.specs.EarlyChosen.{is_lasting}
use Rattle.sql_plan.proofs.standing.lasting_from.Given as goal

abbrev pub invariant-loop-join : goal.invariant-loop-join
invariant-loop-join l = (n : ℕ) → is_lasting (drop n (map join_tree (take l.join l.joins))) ≡ nat_le l.from n
