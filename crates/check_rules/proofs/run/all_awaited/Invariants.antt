use Rattle.std.proofs.Common.{◌≡◌, ◌≤◌, ◌+◌, ℕ, List, [], drop}
use Rattle.std.specs.List.{enumerate_from}
use Rattle.check_rules.specs.Running.{count_at, times_computed}
use Rattle.check_rules.proofs.run.all_awaited.Given as goal

abbrev pub invariant-loop-place : goal.invariant-loop-place
invariant-loop-place l = record {
  counted : (q : List ℕ) → count_at q l.awaited + times_computed [] q (enumerate_from l.place (drop l.place l.rules)) ≡ times_computed [] q (enumerate_from 0 l.rules);
  few : (q : List ℕ) → count_at q l.awaited ≤ l.place;
}
