use Rattle.std.proofs.Common.{◌≡◌}
use Rattle.sql_exec.proofs.selects.item_partners.Given as goal

abbrev pub invariant-loop-item : goal.invariant-loop-item
invariant-loop-item g l = l.partners ≡ l.sources
