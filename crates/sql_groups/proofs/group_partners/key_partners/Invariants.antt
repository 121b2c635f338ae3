use Rattle.std.proofs.Common.{◌≡◌}
use Rattle.sql_from.specs.KeyPartners.{asking_of}
use Rattle.sql_groups.proofs.group_partners.key_partners.Given as goal

abbrev pub invariant-loop-i : goal.invariant-loop-i
invariant-loop-i g l = l.partners ≡ asking_of l.held l.p
