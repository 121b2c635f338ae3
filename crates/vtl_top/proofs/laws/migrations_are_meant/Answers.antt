use Rattle.vtl_top.proofs.MeantLemmas.{migrated_always, migrated_only}
use Rattle.vtl_top.proofs.laws.migrations_are_meant.Goals as goal

pub returns : goal.returns
returns c = record { only = migrated_only; always = migrated_always }
