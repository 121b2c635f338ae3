use Rattle.std.proofs.Common.{◌≡◌}
use Rattle.sql_from.specs.Joins.{numbers_to}
use Rattle.sql_from.proofs.tuples.Tuples.singles.Given as goal

abbrev pub invariant-loop-number : goal.invariant-loop-number
invariant-loop-number l = l.numbers.items ≡ numbers_to l.number
