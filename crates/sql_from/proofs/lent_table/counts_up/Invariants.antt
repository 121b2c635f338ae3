use Rattle.std.proofs.Common.{◌≡◌, ◌<◌, ℕ, [], ◌∷◌, get_or}
use Rattle.sql_from.proofs.lent_table.counts_up.Given as goal

abbrev pub invariant-loop-i : goal.invariant-loop-i
invariant-loop-i l = (k : ℕ) → k < l.i → get_or l.tuples.tuples k [] ≡ k ∷ []
