use Rattle.std.proofs.Common.{subst, sym}
use Rattle.sql_from.specs.Held.{base_held}
use Rattle.sql_from.specs.KeyPartners.{Asking}
use Rattle.sql_meaning.specs.Profiles.{IsLawful}
use Rattle.sql_groups.proofs.group_partners.key_partners.Goals as goal

pub with-requires : goal.with-requires
with-requires g c = subst (λ (a : Asking). IsLawful (base_held a.settings a.held)) (sym c.loop-i.invariant) c.requires
