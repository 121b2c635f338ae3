use Rattle.std.proofs.Common.{◌≡◌, length}
use Rattle.sql_engine.proofs.letting_go.read_last.Given as goal

abbrev pub invariant-loop-i : goal.invariant-loop-i
invariant-loop-i l = length l.names.items ≡ l.count
