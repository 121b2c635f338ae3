use Rattle.std.proofs.Common.{◌≡◌, ◌++◌, drop}
use Rattle.sql_plan.specs.EarlyChosen.{entries_from}
use Rattle.sql_plan.proofs.early.push_entries.Given as goal

abbrev pub invariant-loop-conjunct : goal.invariant-loop-conjunct
invariant-loop-conjunct l = l.early.items ++ entries_from l.select l.conjunct (drop l.conjunct l.firsts) ≡ l.initial.early.items ++ entries_from l.select 0 l.firsts
