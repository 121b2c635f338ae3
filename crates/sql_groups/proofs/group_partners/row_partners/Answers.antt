use Rattle.std.proofs.Common.{subst, sym}
use Rattle.sql_from.specs.Held.{base_held}
use Rattle.sql_meaning.specs.Profiles.{IsLawful}
use Rattle.sql_from.specs.Sources.{Sourced}
use Rattle.sql_groups.proofs.group_partners.row_partners.Goals as goal

pub with-requires : goal.with-requires
with-requires g c = subst (λ (s : Sourced). IsLawful (base_held c.args.p.now s.held)) (sym c.loop-i.invariant) c.requires
