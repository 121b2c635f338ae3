use Rattle.std.proofs.Common.{◌≡◌}
use Rattle.sql_groups.proofs.group_partners.row_partners.Given as goal

abbrev pub invariant-loop-i : goal.invariant-loop-i
invariant-loop-i g l = l.partners ≡ l.sources
